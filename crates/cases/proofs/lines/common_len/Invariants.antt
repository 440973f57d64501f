use Rattle.std.proofs.Common.{◌≡◌, ◌+◌, ◌-◌, ◌≤◌, nat_eq, length, drop}
use Rattle.std.specs.List.{common_prefix_len}
use Rattle.cases.proofs.lines.common_len.Given as goal

abbrev pub invariant-bytes : goal.invariant-bytes
invariant-bytes l = record {
  so_far : l.len + common_prefix_len nat_eq (drop l.len l.text) (drop l.len l.other) ≡ common_prefix_len nat_eq l.text l.other;
  in_text : l.len ≤ length l.text;
  in_other : l.len ≤ length l.other;
}

abbrev pub decreases-bytes : goal.decreases-bytes
decreases-bytes l = length l.text - l.len
