use Rattle.std.proofs.Common.{◌≡◌, ◌+◌, length, subst, arith}
use Rattle.routing_tree.specs.Cases.{IsUpTo}
use Rattle.routing_tree.proofs.tree.RoutingTree.go_up.Goals as goal

pub loop-at-preserved : goal.loop-at-preserved
loop-at-preserved g c = record {
  places = c.step_up.ensures.places;
  most = c.step_up.ensures.most (c.loop-at.at + 1) c.loop-at.invariant.most;
  states = λ all before. c.step_up.ensures.states all (c.loop-at.invariant.states all before);
  up = λ k is start. c.step_up.ensures.step k is (c.loop-at.invariant.up k is start);
}

pub returns-clause-up : goal.returns-clause-up
returns-clause-up g c = λ k is start.
    let over : c.loop-at.at ≡ length c.args.placed.now.ases.now = omega arith in
    subst (λ i. IsUpTo k c.args.placed.now.ases.now i c.loop-at.self) over (c.loop-at.invariant.up k is start)
