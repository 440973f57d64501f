-- The numbers on the paths of seeds.
use Rattle.std.specs.Prelude.{◌≡◌, ℕ, false, Option, Some, Box}
use Rattle.std.specs.Global.{Global}
use Rattle.net_names.specs.Numbers.{occurs}
use Rattle.stability_laws.specs.declared.entry.Seed.{Seed}
use Rattle.route_choice.specs.declared.named_set.NamedSet.{NamedSet}
use Rattle.route_choice.specs.NamedSets.{is_named}
use Rattle.route_choice.specs.Naming.{AreNamed}
use Rattle.dirty_recompute.specs.declared.named.Named.{Named}

-- where numbers are listed, all that stand on the path of a seed are among them
abbrev pub HasAll : Named → (ℕ → Option Seed) → Type 0
HasAll n seeds = (s : Box NamedSet Global) → n.listed ≡ Some s → AreNamed (is_named s.value) seeds

-- the AS stands on the path of no seed
abbrev pub IsOnNoPath : (ℕ → Option Seed) → ℕ → Type 0
IsOnNoPath seeds a = (b : ℕ) (s : Seed) → seeds b ≡ Some s → occurs a s.path ≡ false
