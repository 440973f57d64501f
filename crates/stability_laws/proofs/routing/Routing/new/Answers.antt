use Rattle.stability_laws.proofs.Shorts.{short_empty}
use Rattle.stability_laws.proofs.routing.Routing.new.Goals as goal

pub invariant_of-result : goal.invariant_of-result
invariant_of-result c = short_empty _ c.new.ensures.empty
