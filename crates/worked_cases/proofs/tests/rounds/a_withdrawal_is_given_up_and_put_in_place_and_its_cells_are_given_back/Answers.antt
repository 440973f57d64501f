use Rattle.std.proofs.Common.{IsTrue, subst}
use Rattle.stability_laws.specs.Plans.{Plan, announces}
use Rattle.sim_core.specs.Bases.{base_world}
use Rattle.worked_cases.proofs.Standing.{lent_announcer}
use Rattle.worked_cases.proofs.tests.rounds.a_withdrawal_is_given_up_and_put_in_place_and_its_cells_are_given_back.Goals as goal

pub withdrawn-requires-clause-announcers : goal.withdrawn-requires-clause-announcers
withdrawn-requires-clause-announcers g c = λ p a is. lent_announcer (base_world c.base_of-base.result) c.graph-graph.result.now c.graph-graph.ensures p a (subst (λ (plan : Plan). IsTrue (announces plan p a)) c.plan.ensures.value is)
