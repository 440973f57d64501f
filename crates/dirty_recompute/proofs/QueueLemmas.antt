-- What a queue by rank does.
use Rattle.std.proofs.Common.{◌≡◌, ◌≢◌, ◌⊎◌, inl, inr, ℕ, ◌<◌, Bool, true, false, cond, true≢false, refl, sym, ◌∙◌, ap, subst, arith}
use Rattle.std.proofs.Common.{List, Some, None, ◌+◌, ◌||◌, Option, is_some, IfSome, IfNone, OnOk, Result, Ok, Err}
use Rattle.std.proofs.lemmas.Option.{IfSome_then, none-some, same_Some}
use Rattle.std.proofs.lemmas.Bool.{cases_eq, cases_Bool}
use Rattle.std.specs.List.{slice_get, list_any}
use Rattle.std.specs.BTreeMap.{is_at}
use Rattle.net_names.specs.declared.routes.Rel.{Rel}
use Rattle.net_names.proofs.Shared.{none_from, or_false}
use Rattle.as_graph.specs.declared.neighbour.Neighbour.{Neighbour}
use Rattle.dirty_recompute.specs.declared.queue.Queue.{Queue}
use Rattle.dirty_recompute.specs.declared.spots.Spots.{Spots}
use Rattle.dirty_recompute.specs.declared.spot.Spot.{Spot}
use Rattle.dirty_recompute.specs.declared.way.Way.{Way}
use Rattle.dirty_recompute.specs.Spots.{key_cmp, spots_have, AreRanked, IsSpotOf, IsMarked, IsNextTaken, NoneWaits}
use Rattle.dirty_recompute.specs.Fews.{few_has, AreKeys, HasTurned, IsNextOf}
use Rattle.dirty_recompute.specs.Queues.{contains, spots_in, waits, HasRanks, IsAdded, IsSame, IsTaken, IsNext, AreQueued}
use Rattle.dirty_recompute.proofs.FewLemmas.{key_is, key_at, only_many}
use Rattle.dirty_recompute.proofs.SpotLemmas.{marked_turned, marked_ranked, next_spot, none_has}

pub added : (rank : ℕ → ℕ) (before after : Queue) (a : ℕ) → HasTurned (contains rank before) (contains rank after) (rank a, a) true → (HasRanks rank before → (s : Spots) → after.spots ≡ Some s → AreRanked rank s.items.items) → IsAdded rank before after (λ b. b ≡ a)
added rank before after a up spots = record {
  ranks = ranks;
  kept = λ b t. elim (cases_Bool (is_at (key_cmp k) (rank b, b))) [ inl e ↦ at (rank b, b) ∙ ap (λ x. cond x true (contains rank before (rank b, b))) e | inr e ↦ at (rank b, b) ∙ ap (λ x. cond x true (contains rank before (rank b, b))) e ∙ t ];
  put = λ b is. at (rank b, b) ∙ ap (λ x. cond x true (contains rank before (rank b, b))) (subst (λ t. is_at (key_cmp k) (rank t, t) ≡ true) (sym is) (key_at k));
  from = λ b t. elim (cases_Bool (is_at (key_cmp k) (rank b, b))) [ inl e ↦ inr (sym (ap (λ (p : ℕ × ℕ). p.1) (key_is k (rank b, b) e))) | inr e ↦ inl (sym (at (rank b, b) ∙ ap (λ x. cond x true (contains rank before (rank b, b))) e) ∙ t) ];
}
  where
    k : ℕ × ℕ
    k = (rank a, a)

    at : (q : ℕ × ℕ) → contains rank after q ≡ cond (is_at (key_cmp k) q) true (contains rank before q)
    at q = up q

    ranks : HasRanks rank before → HasRanks rank after
    ranks was = record {
      keys = λ q t. elim (cases_Bool (is_at (key_cmp k) q)) [
        | inl e ↦ subst (λ (p : ℕ × ℕ). p.0 ≡ rank p.1) (key_is k q e) refl
        | inr e ↦ was.keys q (sym (at q ∙ ap (λ x. cond x true (contains rank before q)) e) ∙ t)
      ];
      spots = spots was;
    }

-- what was put into a queue that has the same pairs
pub added_same : (rank : ℕ → ℕ) (first before after : Queue) (who : ℕ → Type 0) → IsSame rank first before → IsAdded rank before after who → IsAdded rank first after who
added_same rank first before after who same x = record {
  ranks = λ r. x.ranks (same.ranks r);
  kept = λ b t. x.kept b (same.pairs (rank b, b) ∙ t);
  put = x.put;
  from = λ b t. elim (x.from b t) [ inl old ↦ inl (sym (same.pairs (rank b, b)) ∙ old) | inr h ↦ inr h ];
}

module _ (rank : ℕ → ℕ) (before after : Queue) (a : ℕ) (was : HasRanks rank before) (member : contains rank before (rank a, a) ≡ true) (up : HasTurned (contains rank before) (contains rank after) (rank a, a) false) (spots : (s : Spots) → after.spots ≡ Some s → AreRanked rank s.items.items) where
  abbrev k : ℕ × ℕ
  k = (rank a, a)

  old : (q : ℕ × ℕ) → is_at (key_cmp k) q ≡ false → contains rank after q ≡ contains rank before q
  old q e = up q ∙ ap (λ x. cond x false (contains rank before q)) e

  none : (q : ℕ × ℕ) → is_at (key_cmp k) q ≡ true → contains rank after q ≡ false
  none q e = up q ∙ ap (λ x. cond x false (contains rank before q)) e

  pub taken : IsTaken rank before after a
  taken = record {
    waited = member;
    gone = none k (key_at k);
    kept = λ b ne t. elim (cases_Bool (is_at (key_cmp k) (rank b, b))) [
      | inl e ↦ absurd (ne (sym (ap (λ (p : ℕ × ℕ). p.1) (key_is k (rank b, b) e))))
      | inr e ↦ old (rank b, b) e ∙ t
    ];
    from = λ b t. elim (cases_Bool (is_at (key_cmp k) (rank b, b))) [
      | inl e ↦ absurd (true≢false (sym t ∙ none (rank b, b) e))
      | inr e ↦ sym (old (rank b, b) e) ∙ t
    ];
    ranks = record {
      keys = λ q t. elim (cases_Bool (is_at (key_cmp k) q)) [
        | inl e ↦ absurd (true≢false (sym t ∙ none q e))
        | inr e ↦ was.keys q (sym (old q e) ∙ t)
      ];
      spots = spots;
    };
  }

pub next_taken : (way : Way) (rank : ℕ → ℕ) (before after : Queue) (a : ℕ) → HasRanks rank before → ((s : Spots) → after.spots ≡ Some s → AreRanked rank s.items.items) → IsNextOf way rank (contains rank before) (contains rank after) a → IsNext way rank before after a
next_taken way rank before after a was spots x = record { taken = taken rank before after a was x.was x.turned spots; next = x.next }

-- the pairs of a queue that has spots
pub with_spots : (rank : ℕ → ℕ) (queue : Queue) (s : Spots) → queue.spots ≡ Some s → (q : ℕ × ℕ) → contains rank queue q ≡ spots_have rank s.items.items q
with_spots rank queue s is q = ap (λ o. spots_in rank o q || few_has rank queue.few q) is ∙ ap (λ x. spots_have rank s.items.items q || x) (queue.apart s is rank q) ∙ or_false (spots_have rank s.items.items q)

-- and of one that has none
pub without_spots : (rank : ℕ → ℕ) (queue : Queue) → queue.spots ≡ None → (q : ℕ × ℕ) → contains rank queue q ≡ few_has rank queue.few q
without_spots rank queue is q = ap (λ o. spots_in rank o q || few_has rank queue.few q) is

module _ (rank : ℕ → ℕ) (before after : Queue) (f g : ℕ × ℕ → Bool) (x : (q : ℕ × ℕ) → contains rank before q ≡ f q) (y : (q : ℕ × ℕ) → contains rank after q ≡ g q) where
  pub turned_by : (k : ℕ × ℕ) (b : Bool) → HasTurned f g k b → HasTurned (contains rank before) (contains rank after) k b
  turned_by k b up q = y q ∙ up q ∙ sym (ap (cond (is_at (key_cmp k) q) b) (x q))

  pub next_by : (way : Way) (a : ℕ) → IsNextOf way rank f g a → IsNextOf way rank (contains rank before) (contains rank after) a
  next_by way a l = record { was = x (rank a, a) ∙ l.was; turned = turned_by (rank a, a) false l.turned; next = λ b t. l.next b (sym (x (rank b, b)) ∙ t) }

-- the spots that a queue has afterwards are ranked, if those are that it got
ranked_now : (rank : ℕ → ℕ) (after : Queue) (t : Spots) → after.spots ≡ Some t → AreRanked rank t.items.items → (u : Spots) → after.spots ≡ Some u → AreRanked rank u.items.items
ranked_now rank after t at ranked u e = subst (λ (v : Spots). AreRanked rank v.items.items) (same_Some t u (sym at ∙ e)) ranked

none_now : (rank : ℕ → ℕ) (after : Queue) → after.spots ≡ None → (u : Spots) → after.spots ≡ Some u → AreRanked rank u.items.items
none_now rank after none u e = absurd (none-some u (sym none ∙ e))

-- a queue of the same parts has the same pairs
pub same_parts : (rank : ℕ → ℕ) (before after : Queue) → after.spots ≡ before.spots → after.few ≡ before.few → IsSame rank before after
same_parts rank before after spots few = record { pairs = pairs; ranks = λ was. record { keys = λ k t. was.keys k (sym (pairs k) ∙ t); spots = λ u e. was.spots u (sym spots ∙ e) } }
  where
    pairs : (k : ℕ × ℕ) → contains rank after k ≡ contains rank before k
    pairs k = ap (λ o. spots_in rank o k || few_has rank after.few k) spots ∙ ap (λ f. spots_in rank before.spots k || few_has rank f k) few

-- a mark at the spot of an AS puts it into the queue
pub marked_added : (rank : ℕ → ℕ) (before after : Queue) (s t : Spots) (place a : ℕ) → before.spots ≡ Some s → after.spots ≡ Some t → IsSpotOf s.items.items a place → IsMarked s.items.items t.items.items place true → IsAdded rank before after (λ b. b ≡ a)
marked_added rank before after s t place a is at (x, got, same) m =
    added rank before after a
    (subst (λ n. HasTurned (contains rank before) (contains rank after) (rank n, n) true) same
    (turned_by rank before after (spots_have rank s.items.items) (spots_have rank t.items.items) (with_spots rank before s is) (with_spots rank after t at) (rank x.asn, x.asn) true
    (marked_turned s.items.items t.items.items place true x got m rank s.apart)))
    (λ was. ranked_now rank after t at (marked_ranked s.items.items t.items.items place true x got m rank (was.spots s is)))

-- an AS that is put into the set, once nobody has a spot
pub gathered_put : (rank : ℕ → ℕ) (first before gathered after : Queue) (a : ℕ) → IsSame rank first before → IsSame rank before gathered → gathered.spots ≡ None → after.spots ≡ None → HasTurned (few_has rank gathered.few) (few_has rank after.few) (rank a, a) true → IsAdded rank first after (λ b. b ≡ a)
gathered_put rank first before gathered after a one two none none' up =
    added_same rank first before after (λ b. b ≡ a) one (added_same rank before gathered after (λ b. b ≡ a) two (added rank gathered after a
    (turned_by rank gathered after (few_has rank gathered.few) (few_has rank after.few) (without_spots rank gathered none) (without_spots rank after none') (rank a, a) true up)
    (λ was. none_now rank after none')))

module _ (rank : ℕ → ℕ) (before after : Queue) (s t : Spots) (x : Spot) (is : before.spots ≡ Some s) (at : after.spots ≡ Some t) (was : HasRanks rank before) where
  pub spots_next : (way : Way) → IsNextTaken way s.items.items t.items.items x → IsNext way rank before after x.asn
  spots_next way next =
      next_taken way rank before after x.asn was (ranked_now rank after t at (marked_ranked s.items.items t.items.items next.place false x next.at next.marked rank (was.spots s is)))
      (next_by rank before after (spots_have rank s.items.items) (spots_have rank t.items.items) (with_spots rank before s is) (with_spots rank after t at) way x.asn
      (next_spot way rank s.items.items t.items.items x s.apart s.rising (was.spots s is) next))

module _ (rank : ℕ → ℕ) (before after : Queue) (none : before.spots ≡ None) (none' : after.spots ≡ None) (was : HasRanks rank before) where
  few_keys : AreKeys rank (few_has rank before.few)
  few_keys k t = was.keys k (without_spots rank before none k ∙ t)

  pub few_next : (way : Way) (o : Option ℕ) → (AreKeys rank (few_has rank before.few) → IfSome o (IsNextOf way rank (few_has rank before.few) (few_has rank after.few))) → IfSome o (IsNext way rank before after)
  few_next way o taken = IfSome_then o (taken few_keys) (λ a l. next_taken way rank before after a was (none_now rank after none') (next_by rank before after (few_has rank before.few) (few_has rank after.few) (without_spots rank before none) (without_spots rank after none') way a l))

-- nobody waits where nobody does in the set
pub few_nobody : (rank : ℕ → ℕ) (before : Queue) (o : Option ℕ) → before.spots ≡ None → IfNone o ((k : ℕ × ℕ) → few_has rank before.few k ≡ false) → IfNone o ((b : ℕ) → waits rank before b ≡ false)
few_nobody rank before None none f = λ b. without_spots rank before none (rank b, b) ∙ f (rank b, b)
few_nobody rank before (Some a) none f = f

-- a queue of whose pairs spots were made
pub widened : (rank : ℕ → ℕ) (before after : Queue) (t : Spots) (ks : List (ℕ × ℕ)) → is_some before.spots ≡ false → after.spots ≡ Some t → before.few.one ≡ None → ks ≡ before.few.many.keys → ((k : ℕ × ℕ) → spots_have rank t.items.items k ≡ list_any (is_at (key_cmp k)) ks) → AreRanked rank t.items.items → IsSame rank before after
widened rank before after t ks bare at one is filled ranked = record { pairs = pairs; ranks = λ was. record { keys = λ k e. was.keys k (sym (pairs k) ∙ e); spots = ranked_now rank after t at ranked } }
  where
    pairs : (k : ℕ × ℕ) → contains rank after k ≡ contains rank before k
    pairs k = with_spots rank after t at k ∙ filled k ∙ ap (list_any (is_at (key_cmp k))) is ∙ sym (without_spots rank before (none_from before.spots bare) k ∙ only_many rank before.few one k)

pub spots_nobody : (rank : ℕ → ℕ) (before : Queue) (s : Spots) → before.spots ≡ Some s → NoneWaits s.items.items → (b : ℕ) → waits rank before b ≡ false
spots_nobody rank before s is none b = with_spots rank before s is (rank b, b) ∙ none_has rank s.items.items none (rank b, b)

pub on_ok : {T E : Type 0} (r : Result T E) {P Q : Type 0} → (P → Q) → OnOk r P → OnOk r Q
on_ok (Ok x) f p = f p
on_ok (Err e) f p = p

-- b is one of the first neighbours, and is this
abbrev pub IsAmongBelow : ℕ → List Neighbour → Rel → ℕ → Type 0
IsAmongBelow k neighbours wanted b = (i : ℕ) × (n : Neighbour) × (i < k) × (slice_get neighbours i ≡ Some n) × (n.asn ≡ b) × (n.rel ≡ wanted)

pub queued_none : (rank : ℕ → ℕ) (queue : Queue) (who left : ℕ → Type 0) → ((b : ℕ) → who b → left b) → AreQueued rank queue queue who left
queued_none rank queue who left all = record { ranks = λ r. r; kept = λ b t. t; put = λ b is. inr (all b is); from = λ b t. inl t }

pub queued_both : (rank : ℕ → ℕ) (q0 q1 q2 : Queue) (p q who left : ℕ → Type 0) → ((b : ℕ) → who b → p b ⊎ q b) → ((b : ℕ) → p b ⊎ q b → who b) → AreQueued rank q0 q1 p left → AreQueued rank q1 q2 q left → AreQueued rank q0 q2 who left
queued_both rank q0 q1 q2 p q who left split join x y = record {
  ranks = λ r. y.ranks (x.ranks r);
  kept = λ b t. y.kept b (x.kept b t);
  put = λ b is. elim (split b is) [ inl h ↦ elim (x.put b h) [ inl t ↦ inl (y.kept b t) | inr n ↦ inr n ] | inr h ↦ y.put b h ];
  from = λ b t. elim (y.from b t) [
    | inl old ↦ elim (x.from b old) [ inl older ↦ inl older | inr h ↦ inr (join b (inl h)) ]
    | inr h ↦ inr (join b (inr h))
  ];
}

-- one neighbour more
pub queued_next : (rank : ℕ → ℕ) (q0 q1 q2 : Queue) (left : ℕ → Type 0) (k : ℕ) (neighbours : List Neighbour) (wanted : Rel) (n : Neighbour) → slice_get neighbours k ≡ Some n →
    AreQueued rank q0 q1 (IsAmongBelow k neighbours wanted) left → AreQueued rank q1 q2 (λ b. (b ≡ n.asn) × (n.rel ≡ wanted)) left → AreQueued rank q0 q2 (IsAmongBelow (k + 1) neighbours wanted) left
queued_next rank q0 q1 q2 left k neighbours wanted n at x y = queued_both rank q0 q1 q2 (IsAmongBelow k neighbours wanted) (λ b. (b ≡ n.asn) × (n.rel ≡ wanted)) (IsAmongBelow (k + 1) neighbours wanted) left split join x y
  where
    split : (b : ℕ) → IsAmongBelow (k + 1) neighbours wanted b → IsAmongBelow k neighbours wanted b ⊎ ((b ≡ n.asn) × (n.rel ≡ wanted))
    split b (i, m, lt, got, is, r) = elim (cases_eq i k) [
      | inl e ↦ let both : Some m ≡ Some n = sym got ∙ ap (slice_get neighbours) e ∙ at in let same : m ≡ n = cc in inr (sym is ∙ ap (λ (t : Neighbour). t.asn) same, sym (ap (λ (t : Neighbour). t.rel) same) ∙ r)
      | inr ne ↦ inl (i, m, (let apart : i ≢ k = ne in omega arith), got, is, r)
    ]

    join : (b : ℕ) → IsAmongBelow k neighbours wanted b ⊎ ((b ≡ n.asn) × (n.rel ≡ wanted)) → IsAmongBelow (k + 1) neighbours wanted b
    join b (inl (i, m, lt, got, is, r)) = (i, m, (omega arith), got, is, r)
    join b (inr (is, r)) = (k, n, (omega arith), at, sym is, r)

pub queued_by : (rank : ℕ → ℕ) (q0 q1 : Queue) (p who left : ℕ → Type 0) → ((b : ℕ) → who b → p b) → ((b : ℕ) → p b → who b) → AreQueued rank q0 q1 p left → AreQueued rank q0 q1 who left
queued_by rank q0 q1 p who left to back x = record {
  ranks = x.ranks;
  kept = x.kept;
  put = λ b is. x.put b (to b is);
  from = λ b t. elim (x.from b t) [ inl old ↦ inl old | inr h ↦ inr (back b h) ];
}

pub added_both : (rank : ℕ → ℕ) (q0 q1 q2 : Queue) (p q who : ℕ → Type 0) → ((b : ℕ) → who b → p b ⊎ q b) → ((b : ℕ) → p b ⊎ q b → who b) → IsAdded rank q0 q1 p → IsAdded rank q1 q2 q → IsAdded rank q0 q2 who
added_both rank q0 q1 q2 p q who split join x y = record {
  ranks = λ r. y.ranks (x.ranks r);
  kept = λ b t. y.kept b (x.kept b t);
  put = λ b is. elim (split b is) [ inl h ↦ y.kept b (x.put b h) | inr h ↦ y.put b h ];
  from = λ b t. elim (y.from b t) [
    | inl old ↦ elim (x.from b old) [ inl older ↦ inl older | inr h ↦ inr (join b (inl h)) ]
    | inr h ↦ inr (join b (inr h))
  ];
}

-- b is one of the first numbers
abbrev pub IsInBelow : ℕ → List ℕ → ℕ → Type 0
IsInBelow k xs b = (i : ℕ) × (i < k) × (slice_get xs i ≡ Some b)

-- one number more
pub added_next_in : (rank : ℕ → ℕ) (q0 q1 q2 : Queue) (k : ℕ) (xs : List ℕ) (n : ℕ) → slice_get xs k ≡ Some n →
    IsAdded rank q0 q1 (IsInBelow k xs) → IsAdded rank q1 q2 (λ b. b ≡ n) → IsAdded rank q0 q2 (IsInBelow (k + 1) xs)
added_next_in rank q0 q1 q2 k xs n at x y = added_both rank q0 q1 q2 (IsInBelow k xs) (λ b. b ≡ n) (IsInBelow (k + 1) xs) split join x y
  where
    split : (b : ℕ) → IsInBelow (k + 1) xs b → IsInBelow k xs b ⊎ (b ≡ n)
    split b (i, lt, got) = elim (cases_eq i k) [
      | inl e ↦ let both : Some b ≡ Some n = sym got ∙ ap (slice_get xs) e ∙ at in let same : b ≡ n = cc in inr same
      | inr ne ↦ inl (i, (let apart : i ≢ k = ne in omega arith), got)
    ]

    join : (b : ℕ) → IsInBelow k xs b ⊎ (b ≡ n) → IsInBelow (k + 1) xs b
    join b (inl (i, lt, got)) = (i, (omega arith), got)
    join b (inr is) = (k, (omega arith), at ∙ ap Some (sym is))
