use Rattle.std.proofs.Common.{◌≡◌, Some, All, take}
use Rattle.routing_tree.proofs.growing.state_of_all.Given as goal

abbrev pub invariant-loop-seed : goal.invariant-loop-seed
invariant-loop-seed l = All (λ s. l.all ≡ Some s.state) (take l.seed-index l.seeds)
