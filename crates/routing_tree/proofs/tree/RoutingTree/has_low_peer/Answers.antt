use Rattle.std.proofs.Common.{◌≡◌, ◌≢◌, ℕ, Some, arith, length, true, slice_get, subst, take_all, ◌∙◌}
use Rattle.net_names.specs.Numbers.{occurs}
use Rattle.routing_tree.proofs.Choices.{inside_at, none_low}
use Rattle.routing_tree.proofs.tree.RoutingTree.has_low_peer.Goals as goal

pub loop-peer-preserved : goal.loop-peer-preserved
loop-peer-preserved g c = none_low c.args.self.now.lows.items c.list-peer-items.result.now c.loop-peer.peer-index c.loop-peer-test.true (c.is_low-low.ensures c.if-low.false) c.loop-peer.invariant

pub returns : goal.returns
returns g c = λ none.
    subst (λ xs. (j : ℕ) → occurs j xs ≡ true → slice_get c.args.self.now.lows.items j ≢ Some true) (take_all c.loop-peer.peer-index c.list-peer-items.result.now c.loop-peer-test.false ∙ c.list-peer-items.ensures) c.loop-peer.invariant

pub is_low-low-requires : goal.is_low-low-requires
is_low-low-requires g c =
    let below = inside_at (length c.args.placed.now.ases.now) c.args.placed.now.links.now.peers c.args.at c.list-peer-items.result.now c.loop-peer.peer-index c.requires.lists.peers c.list-peer-items.ensures c.loop-peer-test.true in
    let e = c.requires.places.lows in omega (arith, below, e)
