use Rattle.std.proofs.Common.{◌+◌, ◌<◌, ◌∙◌, List, length, take, ap, arith}
use Rattle.std.proofs.lemmas.Bool.Decides.{nat_tests}
use Rattle.as_graph.specs.Topology.{relation}
use Rattle.message_sim.specs.Nets.{NetWorld, net_of, net_setting, seeds_in}
use Rattle.message_sim.specs.StepValues.{StepValue}
use Rattle.message_sim.specs.Turns.{first_foreign_in, is_foreign, turns_of}
use Rattle.message_sim.proofs.Turning.{no_foreign, one_step_more, turns_few, within_all}
use Rattle.message_sim.proofs.net.Net.run.Goals as goal

pub make-requires : goal.make-requires
make-requires g c =
    let items = c.as_slice-step-items.result.now in
    let at = relation c.args.self.now.world.graph in
    let inside : c.loop-step.step-index < length items = grind (arith, nat_tests, c.loop-step-test.true) in
    ap (λ (u : NetWorld g.row.P.Denot g.row.V.Denot). is_foreign (relation u.graph) c.step-item.result) c.loop-step.invariant.world
    ∙ ap (is_foreign at) c.step-item.is
    ∙ no_foreign at items (ap (first_foreign_in at) c.as_slice-step-items.ensures.value ∙ c.requires.linked) c.loop-step.step-index c.step-item.result inside

pub overflow_add-made : goal.overflow_add-made
overflow_add-made g c =
    let items = c.as_slice-step-items.result.now in
    let next = c.loop-step.step-index + 1 in
    let w = net_setting g.P.RoutePolicy.meaning g.V.OriginStates.state_of c.args.self.now.world in
    let run = one_step_more g.P.RoutePolicy.meaning g.V.OriginStates.state_of c.args.self.now c.loop-step.self c.make.new.self c.loop-step.invariant.world items c.loop-step.step-index c.step-item.result c.loop-step.made c.in_ok-made.field-0 (grind (arith, nat_tests, c.loop-step-test.true)) c.step-item.is c.loop-step.invariant.run c.in_ok-made.ensures.run in
    let few = turns_few w (seeds_in c.args.self.now.world) (turns_of (take next items)) (net_of c.args.self.now) (net_of c.make.new.self) (c.loop-step.made + c.in_ok-made.field-0) run in
    let whole = ap (λ (xs : List StepValue). length (turns_of xs)) c.as_slice-step-items.ensures.value in
    omega (arith, few, within_all items next, whole, c.as_slice-step-items.ensures.few)

pub loop-step-preserved : goal.loop-step-preserved
loop-step-preserved g c = record {
  world = c.make.ensures.world ∙ c.loop-step.invariant.world;
  run = one_step_more g.P.RoutePolicy.meaning g.V.OriginStates.state_of c.args.self.now c.loop-step.self c.make.new.self c.loop-step.invariant.world c.as_slice-step-items.result.now c.loop-step.step-index c.step-item.result c.loop-step.made c.in_ok-made.field-0 (grind (arith, nat_tests, c.loop-step-test.true)) c.step-item.is c.loop-step.invariant.run c.in_ok-made.ensures.run;
}
