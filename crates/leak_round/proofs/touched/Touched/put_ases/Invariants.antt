use Rattle.std.proofs.Common.{◌≡◌, take}
use Rattle.leak_round.specs.Touched.{ases_in}
use Rattle.leak_round.proofs.touched.Touched.put_ases.Given as goal

abbrev pub invariant-loop-pair : goal.invariant-loop-pair
invariant-loop-pair l = l.ases.items ≡ ases_in (take l.pair-index l.pair-items) l.prefix
