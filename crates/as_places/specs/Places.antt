-- Numbers at places.
use Rattle.std.specs.Prelude.{◌≡◌, ◌≤◌, ℕ, suc, ◌==◌, if◌then◌else◌, Option, None, Some, List, [], ◌∷◌, length, nat_eq, option_map, take, drop, refl}
use Rattle.std.specs.List.{IsDistinct}
use Rattle.std.specs.List.Sorted.{IsStrictlyIncreasing}
use Rattle.std.specs.Coded.{Coded, code_by, coded×, coded_ℕ, coded_list}

-- where a number stands in a list, if it does
abbrev pub place_of : List ℕ → ℕ → Option ℕ
place_of [] a = None
place_of (x ∷ xs) a = if x == a then Some 0 else option_map suc (place_of xs a)

-- numbers by place, and for how many more there is room without memory
pub record PlacedAses : Type 0 where
  pub ases : List ℕ
  pub spare : ℕ

-- stored as the pair of its fields
abbrev pub placed_ases_code : Coded PlacedAses
placed_ases_code =
    code_by (List ℕ × ℕ) (coded× (coded_list coded_ℕ) coded_ℕ) (λ p. (p.ases, p.spare)) (λ p. record { ases = p.0; spare = p.1 }) (λ _. refl)

-- the numbers differ, those at the front rise, and those behind it are kept in their order
pub record AreKept (numbers : List ℕ) (front : ℕ) (behind : List ℕ) : Type 0 where
  pub apart : IsDistinct nat_eq numbers
  pub inside : front ≤ length numbers
  pub rising : IsStrictlyIncreasing (take front numbers)
  pub others : behind ≡ drop front numbers
