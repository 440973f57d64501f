use Rattle.std.proofs.Common.{◌≡◌, ℕ, true, take}
use Rattle.as_graph.specs.Neighbours.{asns}
use Rattle.net_names.specs.Numbers.{occurs}
use Rattle.net_names.specs.Prefixes.{PrefixValue}
use Rattle.leak_round.specs.Touched.{touches}
use Rattle.trial_world.proofs.touching.touch_neighbours.Given as goal

abbrev pub invariant-loop-neighbour : goal.invariant-loop-neighbour
invariant-loop-neighbour l = record {
  these : (n : ℕ) → occurs n (asns (take l.neighbour-index l.neighbour-items)) ≡ true → touches l.touched l.prefix n ≡ true;
  more : (p : PrefixValue) (a : ℕ) → touches l.fn.touched p a ≡ true → touches l.touched p a ≡ true;
}
