use Rattle.std.proofs.Common.{◌≤◌, ◌+◌, ◌-◌, length, take}
use Rattle.indexmap.specs.IndexMap.{index_map_len}
use Rattle.as_graph.specs.Gathering.{AreGathered}
use Rattle.as_graph.proofs.Gathering.{IsSplit}
use Rattle.as_graph.proofs.build.gather.Given as goal

abbrev pub invariant-loop-asn : goal.invariant-loop-asn
invariant-loop-asn l = record {
  higher_within : l.from_higher ≤ length l.higher;
  lower_within : l.from_lower ≤ length l.lower;
  split : IsSplit l.higher l.lower l.from_higher l.from_lower;
  gathered : AreGathered l.rows (take l.from_higher l.higher) (take l.from_lower l.lower);
  few : index_map_len l.rows ≤ 150000;
}

abbrev pub decreases-loop-asn : goal.decreases-loop-asn
decreases-loop-asn l = (length l.higher - l.from_higher) + (length l.lower - l.from_lower)
