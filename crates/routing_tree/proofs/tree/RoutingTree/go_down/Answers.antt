use Rattle.std.proofs.Common.{◌≡◌, ◌≤◌, ◌+◌, ◌-◌, length, slice_index, subst, arith}
use Rattle.routing_tree.specs.Cases.{IsDownTo}
use Rattle.routing_tree.proofs.tree.RoutingTree.go_down.Goals as goal

pub loop-left-preserved : goal.loop-left-preserved
loop-left-preserved g c =
    let some = c.loop-left-test.true in
    let n = length c.args.placed.now.ases.now in
    let left = c.loop-left.left in
    let back : left ≡ left - 1 + 1 = omega (arith, some) in
    record {
      inside = omega (arith, c.loop-left.invariant.inside);
      places = c.step_down.ensures.places;
      most = λ k. (let less : slice_index c.step_down.new.self.lengths.items k ≤ n + 1 + (n - left) + 1 = c.step_down.ensures.most (n + 1 + (n - left)) c.loop-left.invariant.most k in omega (arith, less, some, c.loop-left.invariant.inside));
      states = c.step_down.ensures.states;
      down = λ k is start. c.step_down.ensures.step k is (subst (λ i. IsDownTo k c.args.placed.now.ases.now i c.loop-left.self) back (c.loop-left.invariant.down k is start));
    }

pub returns-clause-down : goal.returns-clause-down
returns-clause-down g c = λ k is start.
    let over : c.loop-left.left ≡ 0 = omega arith in
    subst (λ i. IsDownTo k c.args.placed.now.ases.now i c.loop-left.self) over (c.loop-left.invariant.down k is start)
