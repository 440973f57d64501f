use Rattle.std.proofs.Common.{◌≡◌, ℕ, cond, None, take}
use Rattle.std.specs.FinMap as fin
use Rattle.net_names.specs.Numbers.{occurs}
use Rattle.asprop_run.proofs.activating.same_routing.Given as goal

abbrev pub invariant-loop-asn : goal.invariant-loop-asn
invariant-loop-asn l = (a : ℕ) → fin.get l.routing a ≡ cond (occurs a (take l.asn-index l.ases)) (fin.get l.held a) None
