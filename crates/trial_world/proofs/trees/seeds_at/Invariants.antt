use Rattle.trial_world.proofs.TreeSteps.{AreSeedsTo}
use Rattle.trial_world.proofs.trees.seeds_at.Given as goal

abbrev pub invariant-loop-asn : goal.invariant-loop-asn
invariant-loop-asn l = AreSeedsTo l.fixed l.prefix l.order.ases l.asn-items l.asn-index l.seeds.items
