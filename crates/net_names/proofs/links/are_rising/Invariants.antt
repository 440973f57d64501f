use Rattle.std.proofs.Common.{◌≤◌, ◌-◌, length, take}
use Rattle.net_names.specs.LinkLists.{AreLinks}
use Rattle.net_names.proofs.links.are_rising.Given as goal

abbrev pub invariant-loop-count : goal.invariant-loop-count
invariant-loop-count l = record {
  within : l.count ≤ length l.links;
  few : length l.links ≤ 1500000;
  so_far : AreLinks (take l.count l.links);
}

abbrev pub decreases-loop-count : goal.decreases-loop-count
decreases-loop-count l = length l.links - l.count
