use Rattle.table_check.proofs.AcceptedRounds.{are_rounds, are_accepted}
use Rattle.table_check.proofs.laws.accepted_are_rounds.Goals as goal

pub returns : goal.returns
returns g c = λ w book state plan rounds family t acyclic are known few. (
  are_rounds g.P.RoutePolicy.meaning c.one_stable_routing.ensures w book state plan rounds family t acyclic are known few,
  are_accepted g.P.RoutePolicy.meaning c.one_stable_routing.ensures w book state plan rounds family t acyclic are known few,
)
