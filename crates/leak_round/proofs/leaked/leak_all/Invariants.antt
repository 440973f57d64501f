use Rattle.std.proofs.Common.{◌≡◌, ℕ, take}
use Rattle.net_names.specs.Numbers.{occurs}
use Rattle.route_choice.specs.Tables.{seed_at}
use Rattle.leak_round.specs.Leaked.{own_or_leaked}
use Rattle.leak_round.specs.Overlays.{held_with}
use Rattle.leak_round.proofs.leaked.leak_all.Given as goal

abbrev pub invariant-leakers : goal.invariant-leakers
invariant-leakers l = (a : ℕ) → seed_at l.seeds a ≡ own_or_leaked (seed_at l.fn.seeds a) (occurs a (take l.asn-index l.leakers)) (held_with l.tables l.changes l.before l.prefix a)
