-- Lists of payloads in rising order, and the places at which they are cut.
use Rattle.std.specs.Prelude.{◌≡◌, ℕ, ◌≤◌, Bool, true, false, ◌&&◌, ◌||◌, not, List, [], ◌∷◌, length, take, drop}
use Rattle.std.specs.List.{list_all, list_any, filter}
use Rattle.std.specs.declared.cmp.Ordering.{Ordering}
use Rattle.std.specs.Ordering.{is_lt, eq_by_cmp}
use Rattle.net_names.specs.Prefixes.{PrefixValue, prefix_cmp}
use Rattle.net_names.specs.Payloads.{VrpValue, vrp_cmp}

-- each element is below those after it
abbrev pub is_rising : {K : Type 0} → (K → K → Ordering) → List K → Bool
is_rising R [] = true
is_rising R (x ∷ xs) = list_all (λ y. is_lt (R x y)) xs && is_rising R xs

-- the payloads stand in rising order, each once
abbrev pub IsRising : List VrpValue → Type 0
IsRising vs = is_rising vrp_cmp vs ≡ true

-- the payload's prefix is below this one, not above it, above it, not below it
abbrev pub is_below : PrefixValue → VrpValue → Bool
is_below p v = is_lt (prefix_cmp v.prefix p)

abbrev pub is_to : PrefixValue → VrpValue → Bool
is_to p v = not (is_lt (prefix_cmp p v.prefix))

abbrev pub is_above : PrefixValue → VrpValue → Bool
is_above p v = is_lt (prefix_cmp p v.prefix)

abbrev pub is_from : PrefixValue → VrpValue → Bool
is_from p v = not (is_lt (prefix_cmp v.prefix p))

-- the payloads of this prefix
abbrev pub row_in : PrefixValue → List VrpValue → List VrpValue
row_in p vs = filter (λ v. eq_by_cmp prefix_cmp v.prefix p) vs

-- the first n payloads pass the test, and no other one does
pub record CutsAt (test : VrpValue → Bool) (vs : List VrpValue) (n : ℕ) : Type 0 where
  pub inside : n ≤ length vs
  pub front : list_all test (take n vs) ≡ true
  pub back : list_any test (drop n vs) ≡ false

-- the prefixes of the first list are below those of the second one
abbrev pub are_apart : List VrpValue → List VrpValue → Bool
are_apart vs ws = list_all (λ v. list_all (λ w. is_below w.prefix v) ws) vs

-- no prefix stands on both sides of the place, and some payload stands before it
pub record IsPart (vs : List VrpValue) (n : ℕ) : Type 0 where
  pub inside : n ≤ length vs
  pub some : 1 ≤ n
  pub apart : are_apart (take n vs) (drop n vs) ≡ true

-- whether the payload stands in the list
abbrev pub stands_in : List VrpValue → VrpValue → Bool
stands_in vs v = list_any (eq_by_cmp vrp_cmp v) vs

-- the new list rises and has the payload besides, and passes each test that the old one and the payload pass
pub record PutsIn (old new : List VrpValue) (v : VrpValue) : Type 0 where
  pub rising : IsRising new
  pub members : (q : VrpValue) → stands_in new q ≡ (eq_by_cmp vrp_cmp q v || stands_in old q)
  pub tests : (p : VrpValue → Bool) → list_all p old ≡ true → p v ≡ true → list_all p new ≡ true

-- the new list rises and has all but the payload, and passes each test that the old one passes
pub record TakesOut (old new : List VrpValue) (v : VrpValue) : Type 0 where
  pub rising : IsRising new
  pub members : (q : VrpValue) → stands_in new q ≡ (not (eq_by_cmp vrp_cmp q v) && stands_in old q)
  pub tests : (p : VrpValue → Bool) → list_all p old ≡ true → list_all p new ≡ true
