-- What is told to whom.
use Rattle.std.proofs.Common.{◌≡◌, ◌≢◌, inl, inr, ℕ, zero, suc, ◌+◌, ◌<◌, ◌≤◌, Bool, true, false, is_some, ◌==◌, cond, Option, Some, None, List, [], ◌∷◌, ◌++◌, length, get_or, append-nil, append_assoc, length-append, refl, sym, ◌∙◌, ap, subst, arith}
use Rattle.std.proofs.lemmas.Bool.{cases_lt, eq-eqb, ne_eqb, eqb-true, or_cases, or_left, or_right, true≢false}
use Rattle.std.proofs.lemmas.List.{get_or_append_left, get_or_default, get_or_push, length-map}
use Rattle.std.specs.List.Sorted.{IsStrictlyIncreasing}
use Rattle.net_names.specs.Numbers.{occurs}
use Rattle.policy_laws.specs.Policy.{Policy}
use Rattle.as_graph.specs.declared.neighbour.Neighbour.{Neighbour}
use Rattle.as_graph.specs.Neighbours.{asns, AreNeighbours}
use Rattle.net_names.specs.declared.routes.Rel.{Rel}
use Rattle.net_names.specs.declared.routes.Rel.TheVariants.{Peer}
use Rattle.message_sim.specs.Kept.{AreNewsAt}
use Rattle.as_graph.proofs.OrderLemmas.{rises}
use Rattle.stability_laws.specs.declared.entry.Entry.{Entry}
use Rattle.message_sim.specs.declared.news.News.{News}
use Rattle.message_sim.specs.Messages.{Message, sent_given, IsTold}
use Rattle.message_sim.specs.News.{IsNews, told_by, told_to, news_count, with_news, AreNewsOf}

pub at_asn : (xs : List Neighbour) (i : ℕ) (d : Neighbour) → i < length xs → get_or (asns xs) i 0 ≡ (get_or xs i d).asn
at_asn [] i d h = absurd (omega arith)
at_asn (x ∷ xs) zero d h = refl
at_asn (x ∷ xs) (suc i) d h = at_asn xs i d (omega arith)

pub occurs_asn : (xs : List Neighbour) (i : ℕ) (d : Neighbour) → i < length xs → occurs (get_or xs i d).asn (asns xs) ≡ true
occurs_asn [] i d h = absurd (omega arith)
occurs_asn (x ∷ xs) zero d h = or_left (x.asn == x.asn) (occurs x.asn (asns xs)) (eq-eqb x.asn x.asn refl)
occurs_asn (x ∷ xs) (suc i) d h = or_right (x.asn == (get_or xs i d).asn) (occurs (get_or xs i d).asn (asns xs)) (occurs_asn xs i d (omega arith))

pub apart : (xs : List Neighbour) → IsStrictlyIncreasing (asns xs) → (k i : ℕ) (d e : Neighbour) → k < i → i < length xs → (get_or xs k d).asn ≢ (get_or xs i e).asn
apart xs rising k i d e lt h is =
    let n = length-map xs (λ (x : Neighbour). x.asn) in
    let r = rises (asns xs) rising k i lt (omega (arith, n)) in
    let a = at_asn xs k d (omega arith) in
    let b = at_asn xs i e h in
    absurd (omega (arith, r, a, b, is))

pub told_push : (b : ℕ) (xs : List News) (y : News) → told_to b (xs ++ y ∷ []) ≡ told_by b y ++ told_to b xs
told_push b [] y = sym (append-nil (told_by b y))
told_push b (x ∷ xs) y = ap (λ t. t ++ told_by b x) (told_push b xs y) ∙ append_assoc (told_by b y) (told_to b xs) (told_by b x)

pub count_push : (xs : List News) (y : News) → news_count (xs ++ y ∷ []) ≡ news_count xs + length y.messages
count_push [] y = omega arith
count_push (x ∷ xs) y = omega (arith, count_push xs y)

pub told_here : (y : News) → told_by y.to y ≡ y.messages
told_here y = ap (λ b. cond b y.messages []) (eq-eqb y.to y.to refl)

pub told_apart : (b : ℕ) (y : News) → y.to ≢ b → told_by b y ≡ []
told_apart b y ne = ap (λ t. cond t y.messages []) (ne_eqb y.to b ne)

-- what holds once the first i neighbours have been told
pub record AreNewsSoFar (p : Policy) (ns : List Neighbour) (old new : Option Entry) (i : ℕ) (xs : List News) : Type 0 where
  pub told : (k : ℕ) (d : Neighbour) → k < i → IsTold (sent_given p (Some (get_or ns k d).rel) old) (sent_given p (Some (get_or ns k d).rel) new) [] (told_to (get_or ns k d).asn xs)
  pub others : (b : ℕ) → ((k : ℕ) (d : Neighbour) → k < i → (get_or ns k d).asn ≢ b) → told_to b xs ≡ []
  pub counted : news_count xs ≡ length xs
  pub within : (k : ℕ) (d : News) → k < length xs → occurs (get_or xs k d).to (asns ns) ≡ true

module _ (p : Policy) (ns : List Neighbour) (rising : IsStrictlyIncreasing (asns ns)) (old new : Option Entry) where
  pub none_told : AreNewsSoFar p ns old new 0 []
  none_told = record { told = λ k d h. absurd (omega arith); others = λ b h. refl; counted = refl; within = λ k d h. absurd (omega arith) }

  pub one_told : (i : ℕ) (x : Neighbour) (xs : List News) (m : Option Message) → i < length ns → x ≡ get_or ns i x → IsNews (sent_given p (Some x.rel) old) (sent_given p (Some x.rel) new) m → AreNewsSoFar p ns old new i xs → AreNewsSoFar p ns old new (i + 1) (with_news xs x.asn m)
  one_told i x xs m h at news so = record {
    told = λ k d lt. elim (cases_lt k i) [
      | inl less ↦ subst (λ ms. IsTold (sent_given p (Some (get_or ns k d).rel) old) (sent_given p (Some (get_or ns k d).rel) new) [] ms) (sym (kept m (get_or ns k d).asn (λ e. apart ns rising k i d x less h (sym e ∙ ap (λ (t : Neighbour). t.asn) at)))) (so.told k d less)
      | inr ge ↦ (let is : k ≡ i = omega arith in let there : x ≡ get_or ns k d = at ∙ get_or_default ns i x d h ∙ ap (λ j. get_or ns j d) (sym is) in
          subst (λ (t : Neighbour). IsTold (sent_given p (Some t.rel) old) (sent_given p (Some t.rel) new) [] (told_to t.asn (with_news xs x.asn m))) there (fresh m news))
    ];
    others = λ b ne. kept m b (λ e. ne i x (omega arith) (ap (λ (t : Neighbour). t.asn) (sym at) ∙ e)) ∙ so.others b (λ k d lt. ne k d (omega arith));
    counted = count m;
    within = inside m;
  }
    where
      kept : (m : Option Message) (b : ℕ) → (x.asn ≡ b → ⊥) → told_to b (with_news xs x.asn m) ≡ told_to b xs
      kept None b ne = refl
      kept (Some t) b ne = told_push b xs (record { to = x.asn; messages = t ∷ [] }) ∙ ap (λ ms. ms ++ told_to b xs) (told_apart b (record { to = x.asn; messages = t ∷ [] }) ne)

      empty : told_to x.asn xs ≡ []
      empty = so.others x.asn (λ k d lt e. apart ns rising k i d x lt h (e ∙ ap (λ (t : Neighbour). t.asn) at))

      fresh : (m : Option Message) → IsNews (sent_given p (Some x.rel) old) (sent_given p (Some x.rel) new) m → IsTold (sent_given p (Some x.rel) old) (sent_given p (Some x.rel) new) [] (told_to x.asn (with_news xs x.asn m))
      fresh None same = inl (same, empty)
      fresh (Some t) (ne, is) = inr (
        ne,
        told_push x.asn xs (record { to = x.asn; messages = t ∷ [] }) ∙ ap (λ ms. ms ++ told_to x.asn xs) (told_here (record { to = x.asn; messages = t ∷ [] }))
            ∙ ap (λ ms. (t ∷ []) ++ ms) empty ∙ ap (λ u. u ∷ []) is,
      )

      count : (m : Option Message) → news_count (with_news xs x.asn m) ≡ length (with_news xs x.asn m)
      count None = so.counted
      count (Some t) = omega (arith, count_push xs (record { to = x.asn; messages = t ∷ [] }), length-append xs (record { to = x.asn; messages = t ∷ [] } ∷ []), so.counted)

      inside : (m : Option Message) (k : ℕ) (d : News) → k < length (with_news xs x.asn m) → occurs (get_or (with_news xs x.asn m) k d).to (asns ns) ≡ true
      inside None k d lt = so.within k d lt
      inside (Some t) k d lt =
          let y : News = record { to = x.asn; messages = t ∷ [] } in
          let n = length-append xs (y ∷ []) in
          elim (cases_lt k (length xs)) [
            | inl less ↦ subst (λ (z : News). occurs z.to (asns ns) ≡ true) (sym (get_or_append_left xs (y ∷ []) d k less)) (so.within k d less)
            | inr ge ↦ (let is : k ≡ length xs = omega (arith, n, lt, ge) in
                subst (λ (z : News). occurs z.to (asns ns) ≡ true) (sym (get_or_push xs y d k (sym is)))
                (subst (λ (z : Neighbour). occurs z.asn (asns ns) ≡ true) (sym at) (occurs_asn ns i x h)))
          ]

  pub all_told : (i : ℕ) (xs : List News) → length ns ≤ i → i ≤ length ns → AreNewsSoFar p ns old new i xs → AreNewsOf p ns old new xs
  all_told i xs h most so = record {
    told = λ k d lt. so.told k d (omega arith);
    others = λ b out. so.others b (λ k d lt e. past k d lt b out e);
    counted = so.counted;
    within = so.within;
  }
    where
      past : (k : ℕ) (d : Neighbour) → k < i → (b : ℕ) → occurs b (asns ns) ≡ false → (get_or ns k d).asn ≡ b → ⊥
      past k d lt b out e = true≢false (sym (occurs_asn ns k d (omega arith)) ∙ ap (λ t. occurs t (asns ns)) e ∙ out)

pub told_pop : (b : ℕ) (xs : List News) (y : News) (ms : List Message) → (ms ++ told_by b y) ++ told_to b xs ≡ ms ++ told_to b (xs ++ y ∷ [])
told_pop b xs y ms = append_assoc ms (told_by b y) (told_to b xs) ∙ ap (λ t. ms ++ t) (sym (told_push b xs y))

place_of : (ns : List Neighbour) (a : ℕ) → occurs a (asns ns) ≡ true → (i : ℕ) × (i < length ns) × ((d : Neighbour) → (get_or ns i d).asn ≡ a)
place_of [] a h = absurd (true≢false (sym h))
place_of (n ∷ ns) a h = elim (or_cases (n.asn == a) (occurs a (asns ns)) h) [
  | inl e ↦ (0, omega arith, λ d. eqb-true n.asn a e)
  | inr r ↦ let p = place_of ns a r in (suc p.0, omega (arith, p.1), p.2)
]

-- the news by what the neighbours are
module _ (relation : ℕ → ℕ → Option Rel) (a : ℕ) (ns : List Neighbour) (are : AreNeighbours relation a ns) (p : Policy) (old new : Option Entry) (xs : List News) (news : AreNewsOf p ns old new xs) where
  linked_in : (b : ℕ) → occurs b (asns ns) ≡ true → (r : Rel) × (relation a b ≡ Some r)
  linked_in b h =
      let (k, lt, is) = place_of ns b h in
      let d : Neighbour = record { asn = 0; rel = Peer } in
      ((get_or ns k d).rel, ap (relation a) (sym (is d)) ∙ are.each k d lt)

  pub news_by_links : AreNewsAt p (relation a) old new xs
  news_by_links = record {
    told = λ b. told_at b (relation a b) refl;
    counted = news.counted;
    within = λ k d lt. let (r, is) = linked_in (get_or xs k d).to (news.within k d lt) in ap is_some is;
  }
    where
      none : (b : ℕ) → relation a b ≡ None → (x : Bool) → occurs b (asns ns) ≡ x → occurs b (asns ns) ≡ false
      none b e false is = is
      none b e true is = let (r, there) = linked_in b is in let t : None ≡ Some r = sym e ∙ there in cc

      told_at : (b : ℕ) (r : Option Rel) → relation a b ≡ r → IsTold (sent_given p r old) (sent_given p r new) [] (told_to b xs)
      told_at b None e = inl (refl, news.others b (none b e (occurs b (asns ns)) refl))
      told_at b (Some r) e =
          let (k, lt, is) = place_of ns b (are.complete b r e) in
          let d : Neighbour = record { asn = b; rel = r } in
          let one : Some (get_or ns k d).rel ≡ Some r = sym (are.each k d lt) ∙ ap (relation a) (is d) ∙ e in
          let rel : (get_or ns k d).rel ≡ r = cc in
          coe 0 1 (i. IsTold (sent_given p (Some (rel i)) old) (sent_given p (Some (rel i)) new) [] (told_to (is d i) xs)) (news.told k d lt)
