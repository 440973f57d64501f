-- The queue of the places whose end is forgotten.
use Rattle.std.proofs.Common.{◌≡◌, ◌≢◌, ◌⊎◌, inl, inr, ⊎_elim, ℕ, zero, suc, ◌+◌, ◌<◌, ◌≤◌, Bool, true, false, Option, Some, None, List, [], ◌∷◌, ◌++◌, length, get_or, set, take, refl, sym, ◌∙◌, ap, subst, arith, cond, true≢false}
use Rattle.std.specs.Prelude.{not}
use Rattle.std.specs.Option.{IfSome}
use Rattle.std.specs.List.{count_by, list_any}
use Rattle.std.specs.Prelude.{nat_eq}
use Rattle.std.proofs.lemmas.Map.Keys.{IsDistinct-push}
use Rattle.std.proofs.lemmas.Cmp.{nat_eq_equiv}
use Rattle.data_trace.proofs.Traces.{in_at}
use Rattle.std.proofs.lemmas.Bool.{cases_eq, cases_lt, cases_Bool}
use Rattle.std.proofs.lemmas.List.{length-set, length_push, get_or_push, get_or_append_left, take-append-le}
use Rattle.std.proofs.lemmas.List.Sums.{sum_by-set}
use Rattle.data_trace.specs.declared.places.Mark.{Mark}
use Rattle.data_trace.specs.declared.places.Mark.TheVariants.{Unknown, Walked, Known}
use Rattle.data_trace.specs.Traces.{IsIn}
use Rattle.data_trace.specs.Marks.{mark_of, is_unknown, is_known}
use Rattle.data_trace.specs.Lists.{link_at, AreBelow}
use Rattle.data_trace.specs.Spreads.{IsFront, HasSpread, Forgets}
use Rattle.data_trace.proofs.Walking.{mark_same, mark_other, in_push, last_in}

-- what one more place changes
pub record Grows (x : Option ℕ) (marks : List Mark) (queue : List ℕ) (marks' : List Mark) (queue' : List ℕ) : Type 0 where
  pub more : length queue ≤ length queue'
  pub same : (k : ℕ) → k < length queue → get_or queue' k 0 ≡ get_or queue k 0
  pub front_same : (n : ℕ) → n ≤ length queue → take n queue' ≡ take n queue
  pub stays : (y : ℕ) → mark_of marks y ≡ Unknown → mark_of marks' y ≡ Unknown
  pub now : (y : ℕ) → x ≡ Some y → mark_of marks' y ≡ Unknown
  pub balance : length queue' + count_by is_known marks' ≡ length queue + count_by is_known marks

is_unknown-true : (m : Mark) → is_unknown m ≡ true → m ≡ Unknown
is_unknown-true Unknown h = refl
is_unknown-true Walked h = absurd (true≢false (sym h))
is_unknown-true (Known e) h = absurd (true≢false (sym h))

set_unknown : (marks : List Mark) (x : ℕ) → mark_of marks x ≡ Unknown → set marks x Unknown ≡ marks
set_unknown [] x h = refl
set_unknown (m ∷ marks) zero h = ap (λ t. t ∷ marks) (sym h)
set_unknown (m ∷ marks) (suc x) h = ap (λ t. m ∷ t) (set_unknown marks x h)

count_known : (marks : List Mark) (x : ℕ) → x < length marks → is_unknown (mark_of marks x) ≡ false → count_by is_known (set marks x Unknown) + 1 ≡ count_by is_known marks
count_known marks x l u =
    let one : ℕ = 1 in
    let h : count_by is_known (set marks x Unknown) + cond (is_known (mark_of marks x)) one 0 ≡ count_by is_known marks + 0 =
    sum_by-set (λ m. cond (is_known m) one 0) marks x Unknown Unknown l in
    let q : cond (is_known (mark_of marks x)) one 0 ≡ one = ap (λ (b : Bool). cond (not b) one 0) u in
    omega (arith, h, q)

stays_unknown : (marks : List Mark) (x y : ℕ) → x < length marks → mark_of marks y ≡ Unknown → mark_of (set marks x Unknown) y ≡ Unknown
stays_unknown marks x y l h = ⊎_elim (λ (e : y ≡ x). ap (mark_of (set marks x Unknown)) e ∙ mark_same marks x Unknown l) (λ (ne : y ≢ x). mark_other marks x y Unknown ne ∙ h) (cases_eq y x)

some_same : (x y : ℕ) → Some x ≡ Some y → x ≡ y
some_same x y e = cc

pub grows : (x : Option ℕ) (marks : List Mark) (queue : List ℕ) (marks' : List Mark) (queue' : List ℕ) → IfSome x (λ a. a < length marks) → Forgets x marks queue marks' queue' → Grows x marks queue marks' queue'
grows None marks queue marks' queue' l f = record {
  more = omega (arith, ap length f.1);
  same = λ k m. ap (λ q. get_or q k 0) f.1;
  front_same = λ n m. ap (take n) f.1;
  stays = λ y h. ap (λ ms. mark_of ms y) f.0 ∙ h;
  now = λ y e. let q : Some y ≡ None = sym e in cc;
  balance = ap (λ q. length q + count_by is_known marks') f.1 ∙ ap (λ ms. length queue + count_by is_known ms) f.0;
}
grows (Some x) marks queue marks' queue' l f = by (is_unknown (mark_of marks x)) refl
  where
    now : (y : ℕ) → Some x ≡ Some y → mark_of marks' y ≡ Unknown
    now y e = ap (mark_of marks') (sym (some_same x y e)) ∙ ap (λ ms. mark_of ms x) f.0 ∙ mark_same marks x Unknown l

    stays : (y : ℕ) → mark_of marks y ≡ Unknown → mark_of marks' y ≡ Unknown
    stays y h = ap (λ ms. mark_of ms y) f.0 ∙ stays_unknown marks x y l h

    by : (b : Bool) → is_unknown (mark_of marks x) ≡ b → Grows (Some x) marks queue marks' queue'
    by true e =
        let q : queue' ≡ queue = f.1 ∙ ap (λ b. cond b queue (queue ++ x ∷ [])) e in
        let m : marks' ≡ marks = f.0 ∙ set_unknown marks x (is_unknown-true (mark_of marks x) e) in record {
          more = omega (arith, ap length q);
          same = λ k m. ap (λ q. get_or q k 0) q;
          front_same = λ n m. ap (take n) q;
          stays = stays;
          now = now;
          balance = ap (λ q. length q + count_by is_known marks') q ∙ ap (λ ms. length queue + count_by is_known ms) m;
        }
    by false e =
        let q : queue' ≡ queue ++ x ∷ [] = f.1 ∙ ap (λ b. cond b queue (queue ++ x ∷ [])) e in record {
          more = omega (arith, ap length q, length_push queue x);
          same = λ k m. ap (λ q. get_or q k 0) q ∙ get_or_append_left queue (x ∷ []) 0 k m;
          front_same = λ n m. ap (take n) q ∙ take-append-le n queue (x ∷ []) m;
          stays = stays;
          now = now;
          balance = omega (arith, ap length q, length_push queue x, count_known marks x l e, ap (count_by is_known) f.0);
        }

unknown_known : (m : Mark) → is_unknown m ≡ false → m ≢ Unknown
unknown_known m f e = true≢false (sym (ap is_unknown e) ∙ f)

pub front_forgets : (old : List Mark) (x : Option ℕ) (marks : List Mark) (queue : List ℕ) (marks' : List Mark) (queue' : List ℕ) → IsFront old marks queue → IfSome x (λ a. a < length marks) → Forgets x marks queue marks' queue' → IsFront old marks' queue'
front_forgets old None marks queue marks' queue' w l f = subst (λ ms. IsFront old ms queue') (sym f.0) (subst (λ q. IsFront old marks q) (sym f.1) w)
front_forgets old (Some x) marks queue marks' queue' w l f = by (is_unknown (mark_of marks x)) refl
  where
    by : (b : Bool) → is_unknown (mark_of marks x) ≡ b → IsFront old marks' queue'
    by true e =
        let q : queue' ≡ queue = f.1 ∙ ap (λ b. cond b queue (queue ++ x ∷ [])) e in
        let m : marks' ≡ marks = f.0 ∙ set_unknown marks x (is_unknown-true (mark_of marks x) e) in
        subst (λ ms. IsFront old ms queue') (sym m) (subst (λ q. IsFront old marks q) (sym q) w)
    by false e =
        let q : queue' ≡ queue ++ x ∷ [] = f.1 ∙ ap (λ b. cond b queue (queue ++ x ∷ [])) e in
        subst (λ ms. IsFront old ms queue') (sym f.0) (subst (λ q. IsFront old (set marks x Unknown) q) (sym q) (record {
          len = length-set marks x Unknown ∙ w.len;
          within = λ k m. subst (λ n. get_or (queue ++ x ∷ []) k 0 < n) (sym (length-set marks x Unknown)) (within k m (cases_lt k (length queue)));
          unknown = λ k m. unknown k m (cases_lt k (length queue));
          in_queue = λ y m u. ⊎_elim (λ (e : y ≡ x). subst (λ t. IsIn t (queue ++ x ∷ [])) (sym e) (last_in x queue))
              (λ (ne : y ≢ x). in_push y x queue (w.in_queue y (omega (arith, m, length-set marks x Unknown)) (sym (mark_other marks x y Unknown ne) ∙ u))) (cases_eq y x);
          kept = λ y ne. ⊎_elim (λ (e : y ≡ x). absurd (ne (ap (mark_of (set marks x Unknown)) e ∙ mark_same marks x Unknown l)))
              (λ (d : y ≢ x). mark_other marks x y Unknown d ∙ w.kept y (λ u. ne (mark_other marks x y Unknown d ∙ u))) (cases_eq y x);
          distinct = IsDistinct-push nat_eq_equiv queue x w.distinct (⊎_elim (λ (i : IsIn x queue). absurd (apart i)) (λ i. i) (cases_Bool (list_any (nat_eq x) queue)));
          room = omega (arith, w.room, length_push queue x, count_known marks x l e);
        }))
      where
        apart : IsIn x queue → ⊥
        apart i = let r : (k : ℕ) × (k < length queue) × (get_or queue k 0 ≡ x) = in_at x queue i in unknown_known (mark_of marks x) e (ap (mark_of marks) (sym r.2) ∙ w.unknown r.0 r.1)

        within : (k : ℕ) → k < length (queue ++ x ∷ []) → (k < length queue) ⊎ (length queue ≤ k) → get_or (queue ++ x ∷ []) k 0 < length marks
        within k m (inl a) = subst (λ t. t < length marks) (sym (get_or_append_left queue (x ∷ []) 0 k a)) (w.within k a)
        within k m (inr a) = let k' : length queue ≡ k = omega (arith, a, m, length_push queue x) in subst (λ t. t < length marks) (sym (get_or_push queue x 0 k k')) l

        unknown : (k : ℕ) → k < length (queue ++ x ∷ []) → (k < length queue) ⊎ (length queue ≤ k) → mark_of (set marks x Unknown) (get_or (queue ++ x ∷ []) k 0) ≡ Unknown
        unknown k m (inl a) = ap (mark_of (set marks x Unknown)) (get_or_append_left queue (x ∷ []) 0 k a) ∙ stays_unknown marks x _ l (w.unknown k a)
        unknown k m (inr a) = let k' : length queue ≡ k = omega (arith, a, m, length_push queue x) in ap (mark_of (set marks x Unknown)) (get_or_push queue x 0 k k') ∙ mark_same marks x Unknown l

-- one place of the queue spreads: first to x, and then to y
pub spread_step : (first after : ℕ → Option ℕ) (marks : List Mark) (queue : List ℕ) (roots done : ℕ) (y : Option ℕ) (marks' : List Mark) (queue' : List ℕ) (marks'' : List Mark) (queue'' : List ℕ) →
    done < length queue → HasSpread first after marks queue roots done → Grows (first (get_or queue done 0)) marks queue marks' queue' → Grows y marks' queue' marks'' queue'' →
    (roots ≤ done → y ≡ after (get_or queue done 0)) → HasSpread first after marks'' queue'' roots (done + 1)
spread_step first after marks queue roots done y marks' queue' marks'' queue'' l s g h is = record {
  firsts = λ k z m e. firsts k z (first_at k m e) (cases_eq k done) m;
  afters = λ k z m r e. afters k z r (after_at k m e) (cases_eq k done) m;
} where
  place : (k : ℕ) → k < done + 1 → get_or queue'' k 0 ≡ get_or queue k 0
  place k m = h.same k (omega (arith, m, l, g.more)) ∙ g.same k (omega (arith, m, l))

  first_at : (k : ℕ) → k < done + 1 → {z : Option ℕ} → first (get_or queue'' k 0) ≡ z → first (get_or queue k 0) ≡ z
  first_at k m e = sym (ap first (place k m)) ∙ e

  after_at : (k : ℕ) → k < done + 1 → {z : Option ℕ} → after (get_or queue'' k 0) ≡ z → after (get_or queue k 0) ≡ z
  after_at k m e = sym (ap after (place k m)) ∙ e

  firsts : (k z : ℕ) → first (get_or queue k 0) ≡ Some z → (k ≡ done) ⊎ (k ≢ done) → k < done + 1 → mark_of marks'' z ≡ Unknown
  firsts k z e (inl d) m = h.stays z (g.now z (ap (λ t. first (get_or queue t 0)) (sym d) ∙ e))
  firsts k z e (inr d) m = h.stays z (g.stays z (s.firsts k z (omega (arith, d, m)) e))

  afters : (k z : ℕ) → roots ≤ k → after (get_or queue k 0) ≡ Some z → (k ≡ done) ⊎ (k ≢ done) → k < done + 1 → mark_of marks'' z ≡ Unknown
  afters k z r e (inl d) m = h.now z (is (omega (arith, r, d)) ∙ ap (λ t. after (get_or queue t 0)) (sym d) ∙ e)
  afters k z r e (inr d) m = h.stays z (g.stays z (s.afters k z (omega (arith, d, m)) r e))

some_below : (o : Option ℕ) (n : ℕ) → ((b : ℕ) → o ≡ Some b → b < n) → IfSome o (λ a. a < n)
some_below None n h = tt
some_below (Some b) n h = h b refl

-- the first place of a list is a place
pub first_below : (first : List (Option ℕ)) (at n m : ℕ) → AreBelow first n → m ≡ n → IfSome (link_at first at) (λ a. a < m)
first_below first at n m below e = some_below (link_at first at) m (λ b q. omega (arith, below at b q, e))

behind_some : (r : Bool) (x o : Option ℕ) (b : ℕ) → x ≡ cond r None o → x ≡ Some b → o ≡ Some b
behind_some true x o b e f = let q : None ≡ Some b = sym e ∙ f in cc
behind_some false x o b e f = sym e ∙ f

forgets_len : (x : Option ℕ) (marks : List Mark) (queue : List ℕ) (marks' : List Mark) (queue' : List ℕ) → Forgets x marks queue marks' queue' → length marks' ≡ length marks
forgets_len None marks queue marks' queue' f = ap length f.0
forgets_len (Some x) marks queue marks' queue' f = ap length f.0 ∙ length-set marks x Unknown

-- what a place of the queue brings: the first place of its list, and then the place behind it
pub record Brings (x y : Option ℕ) (marks : List Mark) (queue : List ℕ) (marks' : List Mark) (queue' : List ℕ) (marks'' : List Mark) (queue'' : List ℕ) : Type 0 where
  pub first : Grows x marks queue marks' queue'
  pub behind : Grows y marks' queue' marks'' queue''
  pub front : (old : List Mark) → IsFront old marks queue → IsFront old marks'' queue''

pub brings : (first after : List (Option ℕ)) (at n : ℕ) (root : Bool) (y : Option ℕ) (marks : List Mark) (queue : List ℕ) (marks' : List Mark) (queue' : List ℕ) (marks'' : List Mark) (queue'' : List ℕ) →
    AreBelow first n → AreBelow after n → length marks ≡ n → y ≡ cond root None (link_at after at) → Forgets (link_at first at) marks queue marks' queue' → Forgets y marks' queue' marks'' queue'' →
    Brings (link_at first at) y marks queue marks' queue' marks'' queue''
brings first after at n root y marks queue marks' queue' marks'' queue'' firsts afters len is f g =
    let x_below : IfSome (link_at first at) (λ a. a < length marks) = first_below first at n (length marks) firsts len in
    let same : length marks' ≡ length marks = forgets_len (link_at first at) marks queue marks' queue' f in
    let y_below : IfSome y (λ a. a < length marks') = some_below y (length marks') (λ b e. omega (arith, afters at b (behind_some root y (link_at after at) b is e), same, len)) in
    record {
      first = grows (link_at first at) marks queue marks' queue' x_below f;
      behind = grows y marks' queue' marks'' queue'' y_below g;
      front = λ old w. front_forgets old y marks' queue' marks'' queue'' (front_forgets old (link_at first at) marks queue marks' queue' w x_below f) y_below g;
    }

pub behind_is : (r : Bool) (x o : Option ℕ) → x ≡ cond r None o → r ≡ false → x ≡ o
behind_is r x o e f = e ∙ ap (λ b. cond b None o) f

pub known_is : (m : Mark) → m ≢ Unknown → is_unknown m ≡ false
known_is Unknown n = absurd (n refl)
known_is Walked n = refl
known_is (Known e) n = refl

pub front_apart : (old marks : List Mark) (queue : List ℕ) (a : ℕ) → IsFront old marks queue → mark_of marks a ≢ Unknown → list_any (nat_eq a) queue ≡ false
front_apart old marks queue a w n = ⊎_elim (λ (i : IsIn a queue). absurd (apart i)) (λ i. i) (cases_Bool (list_any (nat_eq a) queue))
  where
    apart : IsIn a queue → ⊥
    apart i = let r : (k : ℕ) × (k < length queue) × (get_or queue k 0 ≡ a) = in_at a queue i in n (ap (mark_of marks) (sym r.2) ∙ w.unknown r.0 r.1)
