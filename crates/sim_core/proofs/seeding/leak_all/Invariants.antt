use Rattle.std.proofs.Common.{◌≡◌, ◌++◌, take}
use Rattle.stability_laws.specs.Plans.{Plan}
use Rattle.sim_core.proofs.Plans.{Leaks, leaks_in, with_leaks}
use Rattle.sim_core.proofs.seeding.leak_all.Given as goal

abbrev pub invariant-loop-asn : goal.invariant-loop-asn
invariant-loop-asn l = (before : Plan) (leaks : Leaks) → l.fn.plan ≡ with_leaks before leaks → l.plan ≡ with_leaks before (leaks ++ leaks_in l.round (take l.asn-index l.leakers))
