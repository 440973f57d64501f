use Rattle.std.proofs.Common.{◌≡◌, ◌&&◌}
use Rattle.std.specs.List.{list_any}
use Rattle.roa_table.specs.Cover.{rows_below}
use Rattle.origin_validation.specs.Judging.{matches}
use Rattle.origin_validation.specs.Leaving.{is_left}
use Rattle.origin_validation.proofs.judging.judge.Given as goal

abbrev pub invariant-loop-len : goal.invariant-loop-len
invariant-loop-len l = record {
  found : l.found ≡ list_any (is_left l.but) (rows_below l.vrps l.prefix l.len);
  valid : l.valid ≡ list_any (λ v. is_left l.but v && matches l.prefix l.number v) (rows_below l.vrps l.prefix l.len);
}
