use Rattle.std.proofs.Common.{◌≡◌, drop}
use Rattle.leak_round.specs.Overlays.{change_in}
use Rattle.leak_round.proofs.leaked.change_of.Given as goal

abbrev pub invariant-loop-change : goal.invariant-loop-change
invariant-loop-change l = change_in l.changes l.round l.prefix l.asn ≡ change_in (drop l.change-index l.changes) l.round l.prefix l.asn
