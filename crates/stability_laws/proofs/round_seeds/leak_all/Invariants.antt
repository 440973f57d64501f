use Rattle.std.proofs.Common.{◌≡◌, ℕ, take}
use Rattle.std.specs.FinMap as map
use Rattle.net_names.specs.Numbers.{occurs}
use Rattle.stability_laws.specs.Plans.{leakers_of}
use Rattle.stability_laws.specs.Seeding.{own_or_leaked}
use Rattle.stability_laws.proofs.round_seeds.leak_all.Given as goal

abbrev pub invariant-leakers : goal.invariant-leakers
invariant-leakers l = (a : ℕ) → map.get l.seeds a ≡ own_or_leaked (map.get l.fn.seeds a) (occurs a (take l.asn-index (leakers_of l.plan l.round))) (map.get l.before a)
