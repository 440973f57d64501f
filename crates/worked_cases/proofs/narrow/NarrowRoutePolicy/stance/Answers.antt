use Rattle.worked_cases.specs.NarrowLaws.{narrow_stance}
use Rattle.worked_cases.proofs.narrow.NarrowRoutePolicy.stance.Goals as goal

pub returns : goal.returns
returns c = narrow_stance c.args._all
