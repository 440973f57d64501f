use Rattle.told_laws.proofs.Delivered.{few_turns}
use Rattle.told_laws.proofs.laws.turns_are_few.Goals as goal

pub returns : goal.returns
returns t c = few_turns t.P.RoutePolicy.meaning c.deliveries_settle.ensures
