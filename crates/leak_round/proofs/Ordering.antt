-- ASes in rising order, and those that are told.
use Rattle.std.proofs.Common.{◌≡◌, ◌≢◌, ◌⊎◌, inl, inr, ℕ, zero, suc, ◌<◌, ◌≤◌, true, false, ◌||◌, ◌&&◌, ◌==◌, cond, nat_eq, Option, Some, None, List, [], ◌∷◌, ◌++◌, length, get_or, Vec, Global, refl, sym, ap, subst, ◌∙◌, arith}
use Rattle.std.specs.Prelude.{IsTrue, is_some, slice_get}
use Rattle.std.specs.List.{dedup, Contains}
use Rattle.std.specs.List.Sorted.{IsPermutation, IsSorted, IsStrictlySortedBy}
use Rattle.std.specs.Option.{option_map_or, option_to_list}
use Rattle.std.specs.Ordering.{nat_cmp}
use Rattle.std.specs.declared.cmp.Ordering.TheVariants.{Less}
use Rattle.std.proofs.lemmas.Bool.{and_parts, or_cases, or_left, or_right, eq-eqb, eqb-true}
use Rattle.std.proofs.lemmas.List.Folds.{list_any-append, Any-from_list_any}
use Rattle.std.proofs.lemmas.List.Kept.{Contains-dedup_nat, Contains-from_dedup}
use Rattle.std.proofs.lemmas.List.Sorted.{Contains-permutation, IsPermutation-sym}
use Rattle.std.proofs.lemmas.Map.Keys.{Less-from_sorted, any_passes_from_place, sorted_from_strictly_increasing, IsStrictlyIncreasing-dedup}
use Rattle.std.proofs.lemmas.Option.{slice_get_within, slice_get-get_or, get_or_from_slice_get}
use Rattle.net_names.specs.Numbers.{occurs}
use Rattle.net_names.specs.Prefixes.{PrefixValue}
use Rattle.stability_laws.specs.Plans.{ListsRising}
use Rattle.stability_laws.proofs.KeyLists.{listed_as}
use Rattle.route_choice.specs.Tables.{change_at, places_of}
use Rattle.leak_round.specs.declared.changes.Change.{Change}
use Rattle.leak_round.specs.declared.plans.RoundsDone.{RoundsDone}
use Rattle.leak_round.specs.Told.{changes_at, IsToldOf}
use Rattle.leak_round.specs.Overlays.{change_in, IsListed}
use Rattle.leak_round.specs.Plans.{ases_told}
use Rattle.leak_round.proofs.Committing.{change_from}
use Rattle.leak_round.proofs.Laying.{here_true, is_at-true, apart_false}
use Rattle.stability_laws.proofs.Listing.{past_end}
use Rattle.leak_round.proofs.Listing.{some_of}

occurs_contained : (xs : List ℕ) (a : ℕ) → occurs a xs ≡ true → Contains xs a
occurs_contained xs a o =
    let (k, x, less, at, same) = Any-from_list_any (λ y. y == a) xs o in
    subst (Contains xs) (eqb-true x a same) (k, less, at)

contained_at : (xs : List ℕ) (a : ℕ) → Contains xs a → (place : ℕ) × (slice_get xs place ≡ Some a)
contained_at xs a (k, less, at) = (k, slice_get-get_or xs k a less ∙ ap (λ y. Some y) at)

at_contained : (xs : List ℕ) (i a : ℕ) → slice_get xs i ≡ Some a → Contains xs a
at_contained xs i a at = (i, slice_get_within xs i a at, get_or_from_slice_get xs i a a at)

contained_occurs : (xs : List ℕ) (a : ℕ) → Contains xs a → occurs a xs ≡ true
contained_occurs xs a c = let (i, at) = contained_at xs a c in any_passes_from_place (λ y. y == a) xs i a at (eq-eqb a a refl)

-- sorted and without repeats, the numbers rise
pub rising : (xs sorted ys : List ℕ) → IsPermutation xs sorted → IsSorted nat_cmp sorted → ys ≡ dedup nat_eq sorted → ListsRising nat_cmp (λ a. IsTrue (occurs a xs)) ys
rising xs sorted ys moved in_order is = record {
  whole = λ a o. contained_at ys a (subst (λ (zs : List ℕ). Contains zs a) (sym is) (Contains-dedup_nat sorted a (Contains-permutation xs sorted a moved (occurs_contained xs a o))));
  only = λ place a at. contained_occurs xs a (Contains-permutation sorted xs a (IsPermutation-sym xs sorted moved) (Contains-from_dedup nat_eq sorted a (subst (λ (zs : List ℕ). Contains zs a) is (at_contained ys place a at))));
  rises = λ i j x y less at at'.
      (let p = get_or_from_slice_get ys i x 0 at in
      let q = get_or_from_slice_get ys j y 0 at' in
      subst (λ n. nat_cmp n y ≡ Less) p (subst (λ n. nat_cmp (get_or ys i 0) n ≡ Less) q (Less-from_sorted nat_cmp ys i j 0 strict less (slice_get_within ys j y at'))));
}
  where
    strict : IsStrictlySortedBy nat_cmp ys
    strict = subst (IsStrictlySortedBy nat_cmp) (sym is) (sorted_from_strictly_increasing (dedup nat_eq sorted) (IsStrictlyIncreasing-dedup sorted in_order))

-- what holds at each place, and of one more at its own, holds at each place of both
pub each_more : {X : Type 0} (P : ℕ → X → Type 0) (xs : List X) (x : X) → ((i : ℕ) (y : X) → slice_get xs i ≡ Some y → P i y) → P (length xs) x → (i : ℕ) (y : X) → slice_get (xs ++ x ∷ []) i ≡ Some y → P i y
each_more P [] x each here zero y at = let same : x ≡ y = cc in subst (P 0) same here
each_more P [] x each here (suc i) y at = cc
each_more P (z ∷ xs) x each here zero y at = each 0 y at
each_more P (z ∷ xs) x each here (suc i) y at = each_more (λ j. P (suc j)) xs x (λ j w is. each (suc j) w is) here i y at

-- what holds of the list at each place is told of its round
pub told_at : (d : RoundsDone) (P : ℕ → List ℕ → Type 0) (rounds : ℕ) → length d.changed.items ≡ rounds → ((i : ℕ) (v : Vec ℕ Global) → slice_get d.changed.items i ≡ Some v → P (suc i) v.items) → (round : ℕ) → 1 ≤ round → round ≤ rounds → P round (ases_told d round)
told_at d P rounds count each zero some within = absurd (omega (arith, some))
told_at d P rounds count each (suc before) some within = by (slice_get d.changed.items before) refl
  where
    by : (o : Option (Vec ℕ Global)) → slice_get d.changed.items before ≡ o → P (suc before) (option_map_or (λ v. v.items) o [])
    by None at = absurd (let past = past_end d.changed.items before at in omega (arith, past, count, within))
    by (Some v) at = each before v at

-- no two changes are of the same table
abbrev pub AreApartTables : List Change → Type 0
AreApartTables xs = (i j : ℕ) (x y : Change) → i < j → slice_get xs i ≡ Some x → slice_get xs j ≡ Some y → (x.round ≢ y.round) ⊎ (x.prefix ≢ y.prefix)

-- each change is the one of its table
pub change_there : (xs : List Change) → AreApartTables xs → (i : ℕ) (x : Change) → slice_get xs i ≡ Some x → (a : ℕ) → change_in xs x.round x.prefix a ≡ change_at x.overlay a
change_there [] apart i x at a = cc
change_there (y ∷ ys) apart zero x at a =
    let same : y ≡ x = cc in
    subst (λ (z : Change). change_in (y ∷ ys) z.round z.prefix a ≡ change_at z.overlay a) same (ap (λ b. cond b (change_at y.overlay a) (change_in ys y.round y.prefix a)) (here_true y))
change_there (y ∷ ys) apart (suc i) x at a =
    ap (λ b. cond b (change_at y.overlay a) (change_in ys x.round x.prefix a)) (apart_false x.round x.prefix y (apart 0 (suc i) y x (omega arith) refl at))
    ∙ change_there ys (λ j k z w less is is'. apart (suc j) (suc k) z w (omega (arith, less)) is is') i x at a

module _ (xs : List Change) (listed : (i : ℕ) (x : Change) → slice_get xs i ≡ Some x → IsListed x.overlay) (apart : AreApartTables xs) (round : ℕ) where
  told_there : (a : ℕ) → changes_at xs round a ≡ true → (prefix : PrefixValue) × IsTrue (is_some (change_in xs round prefix a))
  told_there a t =
      let (k, x, less, is, both) = Any-from_list_any (λ (y : Change). (y.round == round) && occurs a (places_of y.overlay)) xs t in
      let (here, there) = and_parts (x.round == round) (occurs a (places_of x.overlay)) both in
      let at : slice_get xs k ≡ Some x = slice_get-get_or xs k x less ∙ ap (λ (y : Change). Some y) is in
      let same : x.round ≡ round = eqb-true x.round round here in
      (x.prefix, subst (λ n. IsTrue (is_some (change_in xs n x.prefix a))) same (ap is_some (change_there xs apart k x at a) ∙ sym ((listed k x at).whole a) ∙ there))

  there_told : (a : ℕ) (prefix : PrefixValue) → IsTrue (is_some (change_in xs round prefix a)) → changes_at xs round a ≡ true
  there_told a prefix t =
      let (o, is) = some_of (change_in xs round prefix a) t in
      let (i, y, at, here, c) = change_from xs round prefix a o is in
      let (same, other) = is_at-true round prefix y here in
      let there : occurs a (places_of y.overlay) ≡ true = (listed i y at).whole a ∙ ap is_some c in
      any_passes_from_place (λ (z : Change). (z.round == round) && occurs a (places_of z.overlay)) xs i y at (rw (eq-eqb y.round round same, there) refl)

  -- what is told is that an AS has a change, or that its announcement is edited
  pub told_as : (changed : List ℕ) → ((a : ℕ) → occurs a changed ≡ changes_at xs round a) → (edited : Option ℕ) (all ys : List ℕ) → all ≡ changed ++ option_to_list edited
      → ListsRising nat_cmp (λ a. IsTrue (occurs a all)) ys → ListsRising nat_cmp (IsToldOf xs edited round) ys
  told_as changed are edited all ys is l = listed_as nat_cmp (λ a. IsTrue (occurs a all)) (IsToldOf xs edited round) ys there back l
    where
      parts : (a : ℕ) → occurs a all ≡ (changes_at xs round a || occurs a (option_to_list edited))
      parts a = ap (occurs a) is ∙ list_any-append (λ y. y == a) changed (option_to_list edited) ∙ ap (λ b. b || occurs a (option_to_list edited)) (are a)

      of_edited : (o : Option ℕ) (a : ℕ) → occurs a (option_to_list o) ≡ true → o ≡ Some a
      of_edited None a t = cc
      of_edited (Some b) a t = elim (or_cases (b == a) false t) [ inl here ↦ ap (λ n. Some n) (eqb-true b a here) | inr later ↦ cc ]

      there : (a : ℕ) → IsTrue (occurs a all) → IsToldOf xs edited round a
      there a o = elim (or_cases (changes_at xs round a) (occurs a (option_to_list edited)) (sym (parts a) ∙ o)) [ inl t ↦ inl (told_there a t) | inr t ↦ inr (of_edited edited a t) ]

      back : (a : ℕ) → IsToldOf xs edited round a → IsTrue (occurs a all)
      back a (inl (prefix, t)) = parts a ∙ or_left (changes_at xs round a) (occurs a (option_to_list edited)) (there_told a prefix t)
      back a (inr e) = parts a ∙ or_right (changes_at xs round a) (occurs a (option_to_list edited)) (ap (λ o. occurs a (option_to_list o)) e ∙ or_left (a == a) false (eq-eqb a a refl))
