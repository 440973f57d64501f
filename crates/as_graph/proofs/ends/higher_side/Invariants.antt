use Rattle.std.proofs.Common.{take, ◌≡◌, ◌≤◌, vec_len, vec_capacity}
use Rattle.std.specs.FinMap as map
use Rattle.as_graph.specs.Ends.{higher_ends}
use Rattle.as_graph.proofs.ends.higher_side.Given as goal

abbrev pub invariant-loop-place : goal.invariant-loop-place
invariant-loop-place l = record {
  ends : l.ends.items ≡ higher_ends (take l.place (map.entries l.links));
  len : vec_len l.ends ≡ l.place;
  room : map.len l.links ≤ vec_capacity l.ends;
}
