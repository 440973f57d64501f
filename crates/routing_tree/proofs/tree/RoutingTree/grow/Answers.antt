use Rattle.std.proofs.Common.{length, subst, arith}
use Rattle.routing_tree.specs.Trees.{HasPlaces}
use Rattle.routing_tree.proofs.Grown.{case_for, case_of, has_grown, sown_up, turned}
use Rattle.routing_tree.proofs.Puts.{sown_states}
use Rattle.routing_tree.proofs.tree.RoutingTree.grow.Goals as goal

pub go_down-requires-clause-states : goal.go_down-requires-clause-states
go_down-requires-clause-states g c =
    c.go_up.ensures.states c.state_of_all-all.result (sown_states c.state_of_all-all.result c.args.seeds.now (length c.args.seeds.now) c.plant.new.self c.state_of_all-all.ensures c.plant.ensures.sown)

pub returns-clause-grown : goal.returns-clause-grown
returns-clause-grown g c = λ graph policy state announced placed at.
    let p = c.args.placed.now in
    let k = case_for graph policy state announced in
    let is = case_of graph policy state announced p c.args.seeds.now placed at in
    let start = sown_up graph policy state announced p c.args.seeds.now placed at (length c.args.seeds.now) c.plant.new.self (omega arith) (subst (λ n. HasPlaces n c.plant.new.self) c.requires.places.lengths c.plant.ensures.places) c.plant.ensures.sown in
    has_grown graph policy state announced p c.args.seeds.now placed at c.go_down.new.self (c.go_down.ensures.down k is (turned is c.go_up.new.self (c.go_up.ensures.up k is start)))
