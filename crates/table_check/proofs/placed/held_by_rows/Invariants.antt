use Rattle.std.proofs.Common.{◌≡◌, map as each, option_map, take}
use Rattle.std.specs.Prelude.{option_copied}
use Rattle.table_check.specs.Rows.{held_by}
use Rattle.table_check.specs.Walk.{brief_of}
use Rattle.table_check.proofs.placed.held_by_rows.Given as goal

abbrev pub invariant-loop-asn : goal.invariant-loop-asn
invariant-loop-asn l = record {
  briefs : l.briefs.items ≡ each (λ a. option_map brief_of (held_by l.table l.round a)) (take l.asn-index l.rows);
  held : each option_copied l.held.items ≡ each (λ a. held_by l.table l.round a) (take l.asn-index l.rows);
}
