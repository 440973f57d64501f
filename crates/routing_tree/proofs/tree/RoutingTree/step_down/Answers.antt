use Rattle.std.proofs.Common.{◌≡◌, ◌<◌, ◌+◌, Some, None, false, length, slice_index, slice_index_or, sym, subst, arith}
use Rattle.routing_tree.specs.Chosen.{IsChosen, LooksDownAt, state_at}
use Rattle.routing_tree.specs.Puts.{IsPut}
use Rattle.routing_tree.specs.Trees.{HasPlaces}
use Rattle.routing_tree.proofs.Cases.{policy_read}
use Rattle.routing_tree.proofs.GoingDown.{down_nothing, down_settled, down_taken}
use Rattle.routing_tree.proofs.Puts.{own_places, within}
use Rattle.routing_tree.proofs.Taken.{chosen_at, chosen_none, length_read, seen_some}
use Rattle.routing_tree.proofs.tree.RoutingTree.step_down.Goals as goal

pub returns-then-index-ne0-clause-step : goal.returns-then-index-ne0-clause-step
returns-then-index-ne0-clause-step g c = λ k is so.
    let read : slice_index c.args.self.now.lengths.items c.args.at ≡ c.index.result.now = length_read (length c.args.placed.now.ases.now) c.args.at c.index.result.now c.args.self.now c.requires.places c.requires.inside c.index.ensures in
    down_settled is c.args.at c.args.self.now c.requires.inside so (λ none. omega (arith, none, read, c.if-index-ne0.true))

pub returns-in_default-clause-step : goal.returns-in_default-clause-step
returns-in_default-clause-step g c = λ k is so.
    let read : slice_index c.args.self.now.lengths.items c.args.at ≡ c.index.result.now = length_read (length c.args.placed.now.ases.now) c.args.at c.index.result.now c.args.self.now c.requires.places c.requires.inside c.index.ensures in
    let (best, chosen, same) = c.in_default.ensures in
    let looks = LooksDownAt c.args.self.now c.args.placed.now.links.now c.args.at in
    down_nothing is c.args.at c.args.self.now c.requires.inside so (omega (arith, read, c.if-index-ne0.false))
    (subst (λ q. IsChosen q c.args.placed.now.ases.now c.args.self.now looks None) (policy_read is c.args.at c.index-placed-at.result c.requires.inside c.requires.can.policies)
    (chosen_none c.args.placed.now.ases.now c.args.self.now (g.P.RoutePolicy.meaning (slice_index_or c.args.placed.now.policies.now c.args.at c.index-placed-at.result)) looks best chosen same))

pub take-requires-clause-from_inside : goal.take-requires-clause-from_inside
take-requires-clause-from_inside g c =
    let (best, chosen, same) = c.in-Some.ensures in
    let (b, first, at) = chosen_at c.args.placed.now.ases.now c.args.self.now (g.P.RoutePolicy.meaning (slice_index_or c.args.placed.now.policies.now c.args.at c.index-placed-at.result)) (LooksDownAt c.args.self.now c.args.placed.now.links.now c.args.at) c.in-Some.from best chosen same in
    subst (λ j. j < length c.args.self.now.lengths.items) at
    (within (length c.args.self.now.lengths.items) c.args.self.now b.place (own_places (length c.args.placed.now.ases.now) c.args.self.now c.requires.places) (seen_some c.args.placed.now.ases.now c.args.self.now b.view.rel b.place b.view first.seen))

pub returns-clause-step : goal.returns-clause-step
returns-clause-step g c = λ k is so.
    let read : slice_index c.args.self.now.lengths.items c.args.at ≡ c.index.result.now = length_read (length c.args.placed.now.ases.now) c.args.at c.index.result.now c.args.self.now c.requires.places c.requires.inside c.index.ensures in
    let (best, chosen, same) = c.in-Some.ensures in
    let looks = LooksDownAt c.args.self.now c.args.placed.now.links.now c.args.at in
    let (b, first, at) = chosen_at c.args.placed.now.ases.now c.args.self.now (g.P.RoutePolicy.meaning (slice_index_or c.args.placed.now.policies.now c.args.at c.index-placed-at.result)) looks c.in-Some.from best chosen same in
    down_taken is c.args.at c.args.self.now c.requires.inside so (omega (arith, read, c.if-index-ne0.false)) b
    (subst (λ q. IsChosen q c.args.placed.now.ases.now c.args.self.now looks (Some b)) (policy_read is c.args.at c.index-placed-at.result c.requires.inside c.requires.can.policies) first)
    c.take.new.self (subst (λ j. IsPut c.args.self.now c.take.new.self c.args.at (slice_index c.args.self.now.lengths.items j + 1) false (state_at c.args.self.now j) j) (sym at) c.take.ensures.put)
    (subst (λ n. HasPlaces n c.take.new.self) c.requires.places.lengths c.take.ensures.places)
