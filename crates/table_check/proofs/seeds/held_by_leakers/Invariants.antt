use Rattle.std.proofs.Common.{◌≡◌, ℕ, ◌+◌, None, take}
use Rattle.std.specs.FinMap as map
use Rattle.net_names.specs.Numbers.{occurs}
use Rattle.stability_laws.specs.Plans.{leakers_of}
use Rattle.table_check.specs.Rows.{held_by}
use Rattle.table_check.proofs.Leakers.{given}
use Rattle.table_check.proofs.seeds.held_by_leakers.Given as goal

abbrev pub invariant-leakers : goal.invariant-leakers
invariant-leakers l = (a : ℕ) → map.get l.routing a ≡ given None (occurs a (take l.asn-index (leakers_of l.plan (l.before + 1)))) (held_by l.table l.before a)
