-- What a change at one place does to the sums.
use Rattle.std.proofs.Common.{◌≡◌, ◌≢◌, ⊎_elim, ℕ, zero, suc, ◌+◌, ◌<◌, ◌≤◌, Bool, true, false, ◌&&◌, Option, Some, None, List, length, set, refl, sym, ◌∙◌, ap, cond, arith}
use Rattle.std.specs.Prelude.{option_map, nat_eq}
use Rattle.std.specs.List.{list_any}
use Rattle.std.proofs.lemmas.Bool.{cases_Bool, cases_eq, cases_lt}
use Rattle.std.proofs.lemmas.List.{length-set, get_or-set_same, get_or-set_other}
use Rattle.data_trace.specs.declared.kinds.End.{End}
use Rattle.data_trace.specs.declared.places.PlaceEnd.{PlaceEnd}
use Rattle.data_trace.specs.declared.places.PlaceEnd.TheVariants as place_end
use Rattle.data_trace.specs.declared.places.Mark.{Mark}
use Rattle.data_trace.specs.declared.places.Mark.TheVariants.{Unknown, Walked, Known}
use Rattle.data_trace.specs.declared.places.Group.{Group}
use Rattle.data_trace.specs.declared.sums.Sums.{Sums}
use Rattle.data_trace.specs.Marks.{mark_of, end_in, IsSettling}
use Rattle.data_trace.specs.Columns.{named_end, group_at, gone, is_here, is_stub}
use Rattle.data_trace.specs.Sums.{total}
use Rattle.data_trace.specs.Counted.{kept_end, adds, adds_at, summed, AreCounted}
use Rattle.data_trace.proofs.Summing.{Test, all}
use Rattle.data_trace.proofs.Walking.{mark_same, mark_other}

-- ---- sums over the numbers below n

pub summed_same : (f g : ℕ → ℕ) (n : ℕ) → ((x : ℕ) → x < n → f x ≡ g x) → summed f n ≡ summed g n
summed_same f g zero h = refl
summed_same f g (suc n) h = omega (arith, summed_same f g n (λ x l. h x (omega (arith, l))), h n (omega arith))

pub summed_change : (f g : ℕ → ℕ) (x n : ℕ) → x < n → ((y : ℕ) → y ≢ x → g y ≡ f y) → summed g n + f x ≡ summed f n + g x
summed_change f g x zero l h = absurd (omega (arith, l))
summed_change f g x (suc n) l h = ⊎_elim here (there (λ k. summed_change f g x n k h)) (cases_eq x n)
  where
    here : x ≡ n → summed g (suc n) + f x ≡ summed f (suc n) + g x
    here e =
        let s : summed g n ≡ summed f n = summed_same g f n (λ y m. h y (λ q. absurd (omega (arith, q, e, m)))) in
        omega (arith, s, ap f e, ap g e)

    there : (x < n → summed g n + f x ≡ summed f n + g x) → x ≢ n → summed g (suc n) + f x ≡ summed f (suc n) + g x
    there k ne = omega (arith, k (below x n l ne), h n (λ e. ne (sym e)))
      where
        below : (x n : ℕ) → x < suc n → x ≢ n → x < n
        below x n l ne = ⊎_elim (λ k. k) (λ (k : n ≤ x). absurd (ne (omega (arith, k, l)))) (cases_lt x n)

pub summed-at-le : (f : ℕ → ℕ) (x n : ℕ) → x < n → f x ≤ summed f n
summed-at-le f x zero l = absurd (omega (arith, l))
summed-at-le f x (suc n) l = ⊎_elim (λ (k : x < n). omega (arith, summed-at-le f x n k)) (λ (k : n ≤ x). let e : x ≡ n = omega (arith, k, l) in omega (arith, ap f e)) (cases_lt x n)

pub summed-le : (f : ℕ → ℕ) (n : ℕ) → ((x : ℕ) → f x ≤ 1) → summed f n ≤ n
summed-le f zero h = omega arith
summed-le f (suc n) h = omega (arith, summed-le f n h, h n)

pub adds-le : (p : Test) (o : Option End) (g : Group) → adds p o g ≤ 1
adds-le p None g = omega arith
adds-le p (Some e) g = by (is_here g.standing && p e (is_stub g.standing) g.label)
  where
    by : (b : Bool) → cond b 1 0 ≤ 1
    by true = omega arith
    by false = omega arith

-- ---- a mark or a group is put at a place

module _ (sums : Sums) (ases : List ℕ) (marks : List Mark) (groups : List Group) (x : ℕ) (l : x < length ases) (h : AreCounted sums ases marks groups) where
  -- what is counted can be taken
  pub counted-le : (p : Test) → adds p (kept_end ases (mark_of marks x)) (group_at groups x) ≤ total p sums
  counted-le p = omega (arith, h.each p, summed-at-le (adds_at p ases marks groups) x (length ases) l)

  module _ (m : Mark) (below : (y : ℕ) → m ≡ Known (place_end.At y) → y < length ases) where
    change : (p : Test) → summed (adds_at p ases (set marks x m) groups) (length ases) + adds_at p ases marks groups x ≡ summed (adds_at p ases marks groups) (length ases) + adds p (kept_end ases m) (group_at groups x)
    change p =
        let here : adds_at p ases (set marks x m) groups x ≡ adds p (kept_end ases m) (group_at groups x) = ap (λ t. adds p (kept_end ases t) (group_at groups x)) (mark_same marks x m (omega (arith, l, h.marks_len))) in
        summed_change (adds_at p ases marks groups) (adds_at p ases (set marks x m) groups) x (length ases) l (λ y ne. ap (λ t. adds p (kept_end ases t) (group_at groups y)) (mark_other marks x y m ne))
        ∙ ap (λ n. summed (adds_at p ases marks groups) (length ases) + n) here

    -- the number of all places bounds what is counted
    pub fits : (s : ℕ) → s + adds all (kept_end ases (mark_of marks x)) (group_at groups x) ≡ total all sums → s + adds all (kept_end ases m) (group_at groups x) ≤ length ases
    fits s e = omega (arith, e, h.each all, change all, summed-le (adds_at all ases (set marks x m) groups) (length ases) (λ y. adds-le all (kept_end ases (mark_of (set marks x m) y)) (group_at groups y)))

    pub mark_counted : (mid new : Sums) → ((p : Test) → total p mid + adds p (kept_end ases (mark_of marks x)) (group_at groups x) ≡ total p sums) → ((p : Test) → total p new ≡ total p mid + adds p (kept_end ases m) (group_at groups x)) →
        AreCounted new ases (set marks x m) groups
    mark_counted mid new taken added = record {
      marks_len = length-set marks x m ∙ h.marks_len;
      groups_len = h.groups_len;
      below = λ y z e. ⊎_elim (λ (q : y ≡ x). below z (sym (mark_same marks x m (omega (arith, l, h.marks_len))) ∙ ap (mark_of (set marks x m)) (sym q) ∙ e)) (λ (q : y ≢ x). h.below y z (sym (mark_other marks x y m q) ∙ e)) (cases_eq y x);
      each = λ p. omega (arith, taken p, added p, h.each p, change p);
    }

  module _ (g : Group) where
    regroup : (p : Test) → summed (adds_at p ases marks (set groups x g)) (length ases) + adds_at p ases marks groups x ≡ summed (adds_at p ases marks groups) (length ases) + adds p (kept_end ases (mark_of marks x)) g
    regroup p =
        let here : adds_at p ases marks (set groups x g) x ≡ adds p (kept_end ases (mark_of marks x)) g = ap (λ t. adds p (kept_end ases (mark_of marks x)) t) (get_or-set_same groups x g gone (omega (arith, l, h.groups_len))) in
        summed_change (adds_at p ases marks groups) (adds_at p ases marks (set groups x g)) x (length ases) l (λ y ne. ap (λ t. adds p (kept_end ases (mark_of marks y)) t) (get_or-set_other groups x y g gone ne))
        ∙ ap (λ n. summed (adds_at p ases marks groups) (length ases) + n) here

    pub group_fits : (s : ℕ) → s + adds all (kept_end ases (mark_of marks x)) (group_at groups x) ≡ total all sums → s + adds all (kept_end ases (mark_of marks x)) g ≤ length ases
    group_fits s e = omega (arith, e, h.each all, regroup all, summed-le (adds_at all ases marks (set groups x g)) (length ases) (λ y. adds-le all (kept_end ases (mark_of marks y)) (group_at (set groups x g) y)))

    pub group_counted : (mid new : Sums) → ((p : Test) → total p mid + adds p (kept_end ases (mark_of marks x)) (group_at groups x) ≡ total p sums) → ((p : Test) → total p new ≡ total p mid + adds p (kept_end ases (mark_of marks x)) g) →
        AreCounted new ases marks (set groups x g)
    group_counted mid new taken added = record {
      marks_len = h.marks_len;
      groups_len = length-set groups x g ∙ h.groups_len;
      below = h.below;
      each = λ p. omega (arith, taken p, added p, h.each p, regroup p);
    }

pub known_by : (m : Mark) (y : ℕ) → end_in m ≡ Some (place_end.At y) → m ≡ Known (place_end.At y)
known_by Unknown y e = cc
known_by Walked y e = cc
known_by (Known d) y e = let q : d ≡ place_end.At y = cc in ap Known q

-- marks that tell the same ends are counted the same
pub same_counted : (sums : Sums) (ases : List ℕ) (marks other : List Mark) (groups : List Group) → length other ≡ length marks → ((x : ℕ) → end_in (mark_of other x) ≡ end_in (mark_of marks x)) → AreCounted sums ases marks groups → AreCounted sums ases other groups
same_counted sums ases marks other groups len same h = record {
  marks_len = len ∙ h.marks_len;
  groups_len = h.groups_len;
  below = λ x y e. h.below x y (known_by (mark_of marks x) y (sym (same x) ∙ ap end_in e));
  each = λ p. h.each p ∙ summed_same (adds_at p ases marks groups) (adds_at p ases other groups) (length ases) (λ x l. ap (λ o. adds p (named_by o) (group_at groups x)) (sym (same x)));
} where
  named_by : Option PlaceEnd → Option End
  named_by o = option_map (named_end ases) o

-- ends that are known stay places while a path gets an end
pub settled_below : (old walked marks : List Mark) (path : List ℕ) (end : PlaceEnd) (n : ℕ) → IsSettling walked marks path end → ((x : ℕ) → end_in (mark_of walked x) ≡ end_in (mark_of old x)) → ((x y : ℕ) → mark_of old x ≡ Known (place_end.At y) → y < n) → ((y : ℕ) → end ≡ place_end.At y → y < n)
    → (x y : ℕ) → mark_of marks x ≡ Known (place_end.At y) → y < n
settled_below old walked marks path end n s same below at x y e =
    ⊎_elim (λ (h : list_any (nat_eq x) path ≡ true). at y (let q : Known end ≡ Known (place_end.At y) = sym (s.done x h) ∙ e in cc))
    (λ (h : list_any (nat_eq x) path ≡ false). below x y (known_by (mark_of old x) y (sym (same x) ∙ ap end_in (sym (s.rest x h) ∙ e)))) (cases_Bool (list_any (nat_eq x) path))
