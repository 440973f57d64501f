-- Sets of AS numbers.
use Rattle.std.specs.Prelude.{◌≡◌, ℕ, Bool, ◌||◌, nat_eq}
use Rattle.indexmap.specs.IndexSet.{contains}
use Rattle.route_choice.specs.declared.asn_set.AsnSet.{AsnSet}

-- The number is listed.
unfoldable pub is_among : AsnSet → ℕ → Bool
is_among s a = contains nat_eq s.listed a

-- The numbers that pass the test are added, and no others.
abbrev pub Adds : AsnSet → AsnSet → (ℕ → Bool) → Type 0
Adds old new test = (a : ℕ) → is_among new a ≡ (is_among old a || test a)
