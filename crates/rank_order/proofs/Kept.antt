-- Ranks by place, told by number, and an order of places as one of numbers.
use Rattle.std.proofs.Common.{◌≡◌, inl, inr, ℕ, zero, suc, ◌<◌, Bool, true, false, ◌||◌, ◌==◌, nat_eq, cond, Option, Some, None, is_some, unwrap_or, List, [], ◌∷◌, length, map, get_or, refl, sym, ◌∙◌, ap, subst, arith}
use Rattle.std.proofs.lemmas.Bool.{cases_Bool, ltb-true, lt-ltb, eqb-true, eq-eqb, false_from_ne_true}
use Rattle.std.proofs.lemmas.List.{get_or_past, get_or-map, length-map}
use Rattle.std.proofs.lemmas.Map.Keys.{IsDistinct-from_apart}
use Rattle.std.specs.List.{zip}
use Rattle.std.specs.List.Sorted.{IsStrictlyIncreasing}
use Rattle.std.specs.Ordering.{nat_cmp}
use Rattle.std.specs.Cmp.{nat_cmp_total, unsigned_tied}
use Rattle.std.specs.FinMap as map
use Rattle.net_names.specs.Numbers.{occurs, IsDistinct}
use Rattle.cycle_check.specs.declared.ranking.RankedAs.{RankedAs}
use Rattle.cycle_check.specs.Counting.{ArePlacesByRank}
use Rattle.cycle_check.specs.Places.{place_in}
use Rattle.cycle_check.specs.Providers.{rank_by as rank_by_place}
use Rattle.cycle_check.specs.Rankings.{numbers_of, ranks_of, rank_told}
use Rattle.cycle_check.proofs.Listing.{occurs_cons, occurs_head, occurs_rest, occurs_get}
use Rattle.cycle_check.proofs.Places.{place_less, place_none, place_at, at_place}
use Rattle.rank_order.specs.Ranks.{rank_map, rank_by, IsRankOrder}

pub same_sides : (a q : ℕ) → (q == a) ≡ (a == q)
same_sides a q = by (a == q) refl
  where
    by : (b : Bool) → (a == q) ≡ b → (q == a) ≡ b
    by true e = eq-eqb q a (sym (eqb-true a q e))
    by false e = false_from_ne_true (q == a) (λ o. (let back = eq-eqb a q (sym (eqb-true q a o)) in cc))

-- the rank at the place of an AS, if it is there
abbrev pub told : List ℕ → List ℕ → ℕ → Option ℕ
told ases ranks a = cond (occurs a ases) (Some (get_or ranks (place_in ases a) 0)) None

told_more : (b : Bool) (ases ranks : List ℕ) (r a : ℕ) → cond b (Some r) (told ases ranks a) ≡ cond (b || occurs a ases) (Some (get_or (r ∷ ranks) (cond b 0 (suc (place_in ases a))) 0)) None
told_more true ases ranks r a = refl
told_more false ases ranks r a = refl

pub find_zip : (ases ranks : List ℕ) → length ranks ≡ length ases → (a : ℕ) → map.find nat_cmp a (zip ases ranks) ≡ told ases ranks a
find_zip [] ranks e a = refl
find_zip (x ∷ xs) [] e a = absurd (omega (arith, e))
find_zip (x ∷ xs) (r ∷ rs) e a =
    ap (λ b. cond b (Some r) (map.find nat_cmp a (zip xs rs))) (unsigned_tied a x ∙ same_sides x a)
    ∙ ap (cond (x == a) (Some r)) (find_zip xs rs (omega (arith, e)) a)
    ∙ told_more (x == a) xs rs r a

pub get_kept : (ases ranks : List ℕ) → length ranks ≡ length ases → (a : ℕ) → map.get (rank_map ases ranks) a ≡ told ases ranks a
get_kept ases ranks e a = map.get-from_entries nat_cmp_total (zip ases ranks) a ∙ find_zip ases ranks e a

pub is_kept : (ases ranks : List ℕ) → length ranks ≡ length ases → (a : ℕ) → is_some (map.get (rank_map ases ranks) a) ≡ occurs a ases
is_kept ases ranks e a = ap is_some (get_kept ases ranks e a) ∙ by (occurs a ases)
  where
    by : (b : Bool) → is_some (cond b (Some (get_or ranks (place_in ases a) 0)) None) ≡ b
    by true = refl
    by false = refl

-- the rank by number is that at the place
pub rank_kept : (ases ranks : List ℕ) → length ranks ≡ length ases → (a : ℕ) → rank_by (rank_map ases ranks) a ≡ get_or ranks (place_in ases a) 0
rank_kept ases ranks e a = ap (λ r. unwrap_or r 0) (get_kept ases ranks e a) ∙ elim (cases_Bool (occurs a ases)) [
  | inl there ↦ ap (λ b. unwrap_or (cond b (Some (get_or ranks (place_in ases a) 0)) None) 0) there
  | inr away ↦
      ap (λ b. unwrap_or (cond b (Some (get_or ranks (place_in ases a) 0)) None) 0) away
      ∙ sym (get_or_past ranks (place_in ases a) 0 (omega (arith, place_none ases a away, e)))
]

pub told_is : (xs : List RankedAs) (a : ℕ) → rank_told xs a ≡ told (numbers_of xs) (ranks_of xs) a
told_is [] a = refl
told_is (x ∷ xs) a = ap (cond (x.asn == a) (Some x.rank)) (told_is xs a) ∙ told_more (x.asn == a) (numbers_of xs) (ranks_of xs) x.rank a

-- the list tells a rank of just its own ASes
pub is_told : (xs : List RankedAs) (a : ℕ) → is_some (rank_told xs a) ≡ occurs a (numbers_of xs)
is_told [] a = refl
is_told (x ∷ xs) a = by (x.asn == a) (is_told xs a)
  where
    by : (b : Bool) → is_some (rank_told xs a) ≡ occurs a (numbers_of xs) → is_some (cond b (Some x.rank) (rank_told xs a)) ≡ (b || occurs a (numbers_of xs))
    by true ih = refl
    by false ih = ih

-- what is kept of a list of ASes with ranks is what it tells
pub kept_told : (xs : List RankedAs) (a : ℕ) → map.get (rank_map (numbers_of xs) (ranks_of xs)) a ≡ rank_told xs a
kept_told xs a = get_kept (numbers_of xs) (ranks_of xs) (length-map xs (λ (x : RankedAs). x.rank) ∙ sym (length-map xs (λ (x : RankedAs). x.asn))) a ∙ sym (told_is xs a)

module _ (ases ranks : List ℕ) (rising : IsStrictlyIncreasing ases) where
  number_in : (a : ℕ) (xs : List ℕ) → occurs a xs ≡ true → occurs (get_or ases a 0) (map (λ p. get_or ases p 0) xs) ≡ true
  number_in a [] o = cc
  number_in a (x ∷ xs) o = elim (occurs_cons a x xs o) [
    | inl is ↦ subst (λ t. occurs t (get_or ases x 0 ∷ map (λ p. get_or ases p 0) xs) ≡ true) (ap (λ p. get_or ases p 0) is) (occurs_head (get_or ases x 0) (map (λ p. get_or ases p 0) xs))
    | inr more ↦ occurs_rest (get_or ases a 0) (get_or ases x 0) (map (λ p. get_or ases p 0) xs) (number_in a xs more)
  ]

  place_of : (z : ℕ) (xs : List ℕ) → occurs z (map (λ p. get_or ases p 0) xs) ≡ true → (y : ℕ) × (occurs y xs ≡ true) × (get_or ases y 0 ≡ z)
  place_of z [] o = cc
  place_of z (x ∷ xs) o = elim (occurs_cons z (get_or ases x 0) (map (λ p. get_or ases p 0) xs) o) [
    | inl is ↦ (x, occurs_head x xs, is)
    | inr more ↦ (let (y, at, is) = place_of z xs more in (y, occurs_rest y x xs at, is))
  ]

  -- distinct places stand at different indices
  places_apart : (xs : List ℕ) (i j : ℕ) → IsDistinct xs → i < j → j < length xs → get_or xs i 0 ≡ get_or xs j 0 → ⊥
  places_apart [] i j d ij less e = absurd (omega (arith, less))
  places_apart (x ∷ xs) zero zero d ij less e = absurd (omega (arith, ij))
  places_apart (x ∷ xs) zero (suc j) d ij less e = (let o = occurs_get xs j 0 (omega (arith, less)) in let same = ap (λ t. occurs t xs) e in let none = d.0 in cc)
  places_apart (x ∷ xs) (suc i) zero d ij less e = absurd (omega (arith, ij))
  places_apart (x ∷ xs) (suc i) (suc j) d ij less e = places_apart xs i j d.1 (omega (arith, ij)) (omega (arith, less)) e

  module _ (order : List ℕ) (by : ArePlacesByRank (length ases) ranks order) where
    within : (p : ℕ) → occurs p order ≡ true → p < length ases
    within p o = ltb-true p (length ases) (sym (by.complete p) ∙ o)

    at : (i : ℕ) → i < length order → get_or order i 0 < length ases
    at i less = within (get_or order i 0) (occurs_get order i 0 less)

    number_at : (i d : ℕ) → i < length order → get_or (map (λ p. get_or ases p 0) order) i d ≡ get_or ases (get_or order i 0) 0
    number_at i d less = get_or-map (λ (p : ℕ). get_or ases p 0) order i 0 d less

    rank_of : (p : ℕ) → p < length ases → rank_by_place ases ranks (get_or ases p 0) ≡ get_or ranks p 0
    rank_of p less = ap (λ k. get_or ranks k 0) (place_at ases rising p less)

    -- the numbers at the places by rank are the ASes by rank
    pub numbers_by_rank : IsRankOrder (λ a. occurs a ases) (rank_by_place ases ranks) (map (λ p. get_or ases p 0) order)
    numbers_by_rank = record {
      complete = λ a. elim (cases_Bool (occurs a ases)) [
        | inl there ↦ (
            let less = place_less ases a there in
            let o : occurs (place_in ases a) order ≡ true = by.complete (place_in ases a) ∙ lt-ltb (place_in ases a) (length ases) less in
            subst (λ t. occurs t (map (λ p. get_or ases p 0) order) ≡ true) (at_place ases a 0 there) (number_in (place_in ases a) order o) ∙ sym there)
        | inr away ↦ elim (cases_Bool (occurs a (map (λ p. get_or ases p 0) order))) [
          | inl o ↦ (
              let (y, stands, is) = place_of a order o in
              let there : occurs a ases ≡ true = subst (λ t. occurs t ases ≡ true) is (occurs_get ases y 0 (within y stands)) in
              cc)
          | inr o ↦ o ∙ sym away
        ]
      ];
      apart = IsDistinct-from_apart nat_eq (map (λ p. get_or ases p 0) order) (λ i j d ij lj. (
          let inside : j < length order = omega (arith, lj, length-map order (λ (p : ℕ). get_or ases p 0)) in
          let before : i < length order = omega (arith, inside, ij) in
          false_from_ne_true _ (λ e. (
          let same : get_or ases (get_or order i 0) 0 ≡ get_or ases (get_or order j 0) 0 = sym (number_at i d before) ∙ eqb-true _ _ e ∙ number_at j d inside in
          places_apart order i j by.apart ij inside (sym (place_at ases rising _ (at i before)) ∙ ap (place_in ases) same ∙ place_at ases rising _ (at j inside))))));
      rising = λ i j d le lj.
          let inside : j < length order = omega (arith, lj, length-map order (λ (p : ℕ). get_or ases p 0)) in
          let before : i < length order = omega (arith, inside, le) in
          let first = ap (rank_by_place ases ranks) (number_at i d before) ∙ rank_of (get_or order i 0) (at i before) in
          let second = ap (rank_by_place ases ranks) (number_at j d inside) ∙ rank_of (get_or order j 0) (at j inside) in
          omega (arith, first, second, by.rising i j 0 le inside);
    }
