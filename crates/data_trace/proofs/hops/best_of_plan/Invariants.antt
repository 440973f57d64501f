use Rattle.std.proofs.Common.{◌≡◌, take}
use Rattle.std.specs.Prelude.{filter}
use Rattle.net_names.specs.Coverage.{holds}
use Rattle.data_trace.specs.Best.{best_in}
use Rattle.data_trace.proofs.hops.best_of_plan.Given as goal

abbrev pub invariant-loop-prefix : goal.invariant-loop-prefix
invariant-loop-prefix l = l.best ≡ best_in l.tables l.asn (filter (λ p. holds p l.addr) (take l.prefix-index l.prefix-items))
