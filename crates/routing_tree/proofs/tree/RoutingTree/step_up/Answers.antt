use Rattle.std.proofs.Common.{◌≡◌, Some, None, length, slice_index, subst, arith}
use Rattle.routing_tree.specs.Chosen.{IsChosen, LooksUpAt}
use Rattle.routing_tree.specs.Trees.{HasPlaces}
use Rattle.routing_tree.proofs.Cases.{policy_read}
use Rattle.routing_tree.proofs.GoingUp.{up_nothing, up_seeded, up_taken}
use Rattle.routing_tree.proofs.Taken.{length_read}
use Rattle.routing_tree.proofs.tree.RoutingTree.step_up.Goals as goal

pub returns-then-index-ne0-clause-step : goal.returns-then-index-ne0-clause-step
returns-then-index-ne0-clause-step g c = λ k is so.
    let read : slice_index c.args.self.now.lengths.items c.args.at ≡ c.index.result.now = length_read (length c.args.placed.now.ases.now) c.args.at c.index.result.now c.args.self.now c.requires.places c.requires.inside c.index.ensures in
    up_seeded is c.args.at c.args.self.now c.requires.inside so (λ none. omega (arith, none, read, c.if-index-ne0.true))

pub returns-in_default-clause-step : goal.returns-in_default-clause-step
returns-in_default-clause-step g c = λ k is so.
    let read : slice_index c.args.self.now.lengths.items c.args.at ≡ c.index.result.now = length_read (length c.args.placed.now.ases.now) c.args.at c.index.result.now c.args.self.now c.requires.places c.requires.inside c.index.ensures in
    up_nothing is c.args.at c.args.self.now c.requires.inside so (omega (arith, read, c.if-index-ne0.false))
    (subst (λ q. IsChosen q c.args.placed.now.ases.now c.args.self.now (LooksUpAt c.args.placed.now.links.now c.args.at) None) (policy_read is c.args.at c.index-placed-at.result c.requires.inside c.requires.can.policies) (c.in_default.ensures c.requires.can.apart))

pub returns-clause-step : goal.returns-clause-step
returns-clause-step g c = λ k is so.
    let read : slice_index c.args.self.now.lengths.items c.args.at ≡ c.index.result.now = length_read (length c.args.placed.now.ases.now) c.args.at c.index.result.now c.args.self.now c.requires.places c.requires.inside c.index.ensures in
    up_taken is c.args.at c.args.self.now c.requires.inside so (omega (arith, read, c.if-index-ne0.false)) c.in-Some.best
    (subst (λ q. IsChosen q c.args.placed.now.ases.now c.args.self.now (LooksUpAt c.args.placed.now.links.now c.args.at) (Some c.in-Some.best)) (policy_read is c.args.at c.index-placed-at.result c.requires.inside c.requires.can.policies) (c.in-Some.ensures c.requires.can.apart))
    c.take.new.self c.take.ensures.put (subst (λ n. HasPlaces n c.take.new.self) c.requires.places.lengths c.take.ensures.places)
