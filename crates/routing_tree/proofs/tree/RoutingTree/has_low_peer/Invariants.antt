use Rattle.std.proofs.Common.{◌≡◌, ◌≢◌, ℕ, Some, true, take, slice_get}
use Rattle.net_names.specs.Numbers.{occurs}
use Rattle.routing_tree.proofs.tree.RoutingTree.has_low_peer.Given as goal

abbrev pub invariant-loop-peer : goal.invariant-loop-peer
invariant-loop-peer g l = (j : ℕ) → occurs j (take l.peer-index l.peer-items) ≡ true → slice_get l.self.lows.items j ≢ Some true
