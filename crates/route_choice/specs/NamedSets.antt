-- Sets of numbers that stand on paths.
use Rattle.std.specs.Prelude.{◌≡◌, ℕ, Bool, ◌||◌}
use Rattle.indexmap.specs.IndexSet.{contains}
use Rattle.route_choice.specs.declared.named_set.NamedSet.{NamedSet}
use Rattle.route_choice.specs.Naming.{pair_eq}

-- The first number stands on a path of the set that ends with the second.
unfoldable pub is_named : NamedSet → ℕ → ℕ → Bool
is_named s a e = contains pair_eq s.ends (a, e)

-- The pairs of a number and the last number of its path that pass the test are added, and no others.
abbrev pub AddsEnds : NamedSet → NamedSet → (ℕ → ℕ → Bool) → Type 0
AddsEnds old new test = (a e : ℕ) → is_named new a e ≡ (is_named old a e || test a e)
