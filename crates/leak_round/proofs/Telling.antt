-- The triples of round, prefix and AS at which there is a change.
use Rattle.std.proofs.Common.{◌≡◌, inl, inr, ℕ, suc, Bool, true, false, ◌==◌, cond, Option, Some, nat_eq, List, [], ◌∷◌, ◌++◌, map, length, refl, sym, ap, subst, ◌∙◌, arith}
use Rattle.std.specs.Prelude.{is_some}
use Rattle.std.specs.List.{AllByRecursion, IsDistinct as AreDistinct}
use Rattle.std.proofs.lemmas.Bool.{true≢false, or_cases, eqb-true}
use Rattle.std.proofs.lemmas.Cmp.{nat_eq_equiv}
use Rattle.std.proofs.lemmas.List.{length-append, length-map}
use Rattle.std.proofs.lemmas.List.Sums.{sum_by-cons}
use Rattle.net_names.specs.Numbers.{occurs, IsDistinct}
use Rattle.net_names.specs.Prefixes.{PrefixValue}
use Rattle.route_choice.specs.declared.held.Held.{Held}
use Rattle.route_choice.specs.declared.round_tables.RoundTables.{RoundTables}
use Rattle.route_choice.specs.Tables.{change_at, places_of}
use Rattle.leak_round.specs.declared.changes.Change.{Change}
use Rattle.leak_round.specs.Entries.{StandsIn, AreApart}
use Rattle.leak_round.specs.Overlays.{is_at, change_in, changes_count, AreChangesOf}
use Rattle.leak_round.proofs.Committing.{change_from}
use Rattle.leak_round.proofs.Counting.{stands_occurs, apart_numbers, from_mapped, apart_mapped, from_appended, apart_appended}
use Rattle.leak_round.proofs.Laying.{here_true, is_at-true}
use Rattle.leak_round.proofs.Listing.{some_of}

occurs_stands : (xs : List ℕ) (a : ℕ) → occurs a xs ≡ true → StandsIn a xs
occurs_stands [] a o = cc
occurs_stands (x ∷ xs) a o = elim (or_cases (x == a) (occurs a xs) o) [ inl here ↦ inl (sym (eqb-true x a here)) | inr later ↦ inr (occurs_stands xs a later) ]

to_mapped : {X Y : Type 0} (into : Y → X) (ys : List Y) (y : Y) → StandsIn y ys → StandsIn (into y) (map into ys)
to_mapped into [] y s = absurd s
to_mapped into (z ∷ ys) y (inl e) = inl (ap into e)
to_mapped into (z ∷ ys) y (inr s) = inr (to_mapped into ys y s)

to_first : {X : Type 0} (xs ys : List X) (x : X) → StandsIn x xs → StandsIn x (xs ++ ys)
to_first [] ys x s = absurd s
to_first (z ∷ xs) ys x (inl e) = inl e
to_first (z ∷ xs) ys x (inr s) = inr (to_first xs ys x s)

to_second : {X : Type 0} (xs ys : List X) (x : X) → StandsIn x ys → StandsIn x (xs ++ ys)
to_second [] ys x s = s
to_second (z ∷ xs) ys x s = inr (to_second xs ys x s)

not_in : (ys : List ℕ) (x : ℕ) → AllByRecursion (λ y. nat_eq x y ≡ false) ys → occurs x ys ≡ false
not_in [] x d = refl
not_in (y ∷ ys) x d = rw (nat_eq_equiv.symm y x ∙ d.0, not_in ys x d.1) refl

pub distinct_by_test : (xs : List ℕ) → AreDistinct nat_eq xs → IsDistinct xs
unfolding AreDistinct
distinct_by_test [] d = tt
distinct_by_test (x ∷ xs) d = (not_in xs x d.0, distinct_by_test xs d.1)

abbrev triple : Change → ℕ → ℕ × (PrefixValue × ℕ)
triple x a = (x.round, (x.prefix, a))

pub all_changed : List Change → List (ℕ × (PrefixValue × ℕ))
all_changed [] = []
all_changed (x ∷ xs) = map (triple x) (places_of x.overlay) ++ all_changed xs

pub length-all_changed : (xs : List Change) → length (all_changed xs) ≡ changes_count xs
unfolding all_changed
length-all_changed [] = refl
length-all_changed (x ∷ xs) = omega (arith, length-append (map (triple x) (places_of x.overlay)) (all_changed xs), length-map (places_of x.overlay) (triple x), sum_by-cons (λ (y : Change). length (places_of y.overlay)) x xs, length-all_changed xs)

later_changes : (rounds : List RoundTables) (x : Change) (xs : List Change) → AreChangesOf rounds (x ∷ xs) → AreChangesOf rounds xs
later_changes rounds x xs w = record {
  fits = λ i y at. w.fits (suc i) y at;
  apart = λ i j y z less at at'. w.apart (suc i) (suc j) y z (omega (arith, less)) at at';
  listed = λ i y at. w.listed (suc i) y at;
}

-- where a later change is of the table the first is not
not_first : (rounds : List RoundTables) (x : Change) (xs : List Change) → AreChangesOf rounds (x ∷ xs) → (round : ℕ) (prefix : PrefixValue) (a : ℕ) (o : Option Held) → change_in xs round prefix a ≡ Some o → is_at round prefix x ≡ false
not_first rounds x xs w round prefix a o e = by (is_at round prefix x) refl
  where
    by : (b : Bool) → is_at round prefix x ≡ b → b ≡ false
    by false is = refl
    by true is =
        let (i, y, at, here, c) = change_from xs round prefix a o e in
        let (r, p) = is_at-true round prefix x is in
        let (r', p') = is_at-true round prefix y here in
        elim (w.apart 0 (suc i) x y (omega arith) refl at) [ inl ne ↦ absurd (ne (r ∙ sym r')) | inr ne ↦ absurd (ne (p ∙ sym p')) ]

pub stands_changed : (rounds : List RoundTables) (xs : List Change) → AreChangesOf rounds xs → (t : ℕ × (PrefixValue × ℕ)) → StandsIn t (all_changed xs) → is_some (change_in xs t.0 t.1.0 t.1.1) ≡ true
unfolding all_changed
stands_changed rounds [] w t s = absurd s
stands_changed rounds (x ∷ xs) w t s = elim (from_appended (map (triple x) (places_of x.overlay)) (all_changed xs) t s) [
  | inl here ↦
      let (a, at, e) = from_mapped (triple x) (λ y z q. ap (λ (u : ℕ × (PrefixValue × ℕ)). u.1.1) q) (places_of x.overlay) t here in
      let there : is_some (change_at x.overlay a) ≡ true = sym ((w.listed 0 x refl).whole a) ∙ stands_occurs (places_of x.overlay) a at in
      let now : is_some (change_in (x ∷ xs) x.round x.prefix a) ≡ true = ap (λ b. is_some (cond b (change_at x.overlay a) (change_in xs x.round x.prefix a))) (here_true x) ∙ there in
      subst (λ (u : ℕ × (PrefixValue × ℕ)). is_some (change_in (x ∷ xs) u.0 u.1.0 u.1.1) ≡ true) (sym e) now
  | inr later ↦
      let is = stands_changed rounds xs (later_changes rounds x xs w) t later in
      let (o, e) = some_of (change_in xs t.0 t.1.0 t.1.1) is in
      ap (λ b. is_some (cond b (change_at x.overlay t.1.1) (change_in xs t.0 t.1.0 t.1.1))) (not_first rounds x xs w t.0 t.1.0 t.1.1 o e) ∙ is
]

pub changed_stands : (rounds : List RoundTables) (xs : List Change) → AreChangesOf rounds xs → (t : ℕ × (PrefixValue × ℕ)) → is_some (change_in xs t.0 t.1.0 t.1.1) ≡ true → StandsIn t (all_changed xs)
unfolding all_changed
changed_stands rounds [] w t e = cc
changed_stands rounds (x ∷ xs) w t e = by (is_at t.0 t.1.0 x) refl (changed_stands rounds xs (later_changes rounds x xs w) t) e
  where
    by : (b : Bool) → is_at t.0 t.1.0 x ≡ b → (is_some (change_in xs t.0 t.1.0 t.1.1) ≡ true → StandsIn t (all_changed xs)) → is_some (cond b (change_at x.overlay t.1.1) (change_in xs t.0 t.1.0 t.1.1)) ≡ true → StandsIn t (all_changed (x ∷ xs))
    by true is rest e =
        let (r, p) = is_at-true t.0 t.1.0 x is in
        let in_places : StandsIn t.1.1 (places_of x.overlay) = occurs_stands (places_of x.overlay) t.1.1 ((w.listed 0 x refl).whole t.1.1 ∙ e) in
        let here : StandsIn (triple x t.1.1) (map (triple x) (places_of x.overlay)) = to_mapped (triple x) (places_of x.overlay) t.1.1 in_places in
        to_first (map (triple x) (places_of x.overlay)) (all_changed xs) t (subst (λ u. StandsIn u (map (triple x) (places_of x.overlay))) (λ i. (r i, (p i, t.1.1))) here)
    by false is rest e = to_second (map (triple x) (places_of x.overlay)) (all_changed xs) t (rest e)

pub apart-all_changed : (rounds : List RoundTables) (xs : List Change) → AreChangesOf rounds xs → AreApart (all_changed xs)
unfolding all_changed
apart-all_changed rounds [] w = tt
apart-all_changed rounds (x ∷ xs) w =
    let one = λ (y z : ℕ) (q : triple x y ≡ triple x z). ap (λ (u : ℕ × (PrefixValue × ℕ)). u.1.1) q in
    apart_appended (map (triple x) (places_of x.overlay)) (all_changed xs)
    (apart_mapped (triple x) one (places_of x.overlay) (apart_numbers (places_of x.overlay) (distinct_by_test (places_of x.overlay) (w.listed 0 x refl).apart)))
    (apart-all_changed rounds xs (later_changes rounds x xs w))
    (λ t l r.
    let (a, at, e) = from_mapped (triple x) one (places_of x.overlay) t l in
    let (o, is) = some_of (change_in xs t.0 t.1.0 t.1.1) (stands_changed rounds xs (later_changes rounds x xs w) t r) in
    let other : is_at x.round x.prefix x ≡ false = subst (λ (u : ℕ × (PrefixValue × ℕ)). is_at u.0 u.1.0 x ≡ false) e (not_first rounds x xs w t.0 t.1.0 t.1.1 o is) in
    true≢false (sym (here_true x) ∙ other))
