use Rattle.table_check.proofs.OneVerdict.{one_verdict}
use Rattle.table_check.proofs.laws.one_verdict.Goals as goal

pub returns : goal.returns
returns g c = one_verdict g.P.RoutePolicy.meaning g.met.P.RoutePolicy.ranks_offers
