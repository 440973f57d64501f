use Rattle.std.proofs.Common.{◌≡◌, ◌-◌, ◌||◌, take}
use Rattle.std.specs.List.{list_any}
use Rattle.roa_table.specs.Sets.{items, count}
use Rattle.origin_validation.proofs.Judgement.{counts, counts_and_matches}
use Rattle.origin_validation.proofs.judging.judge_few.Given as goal

abbrev pub invariant-loop-place : goal.invariant-loop-place
invariant-loop-place l = record {
  found : l.found ≡ list_any (counts l.but l.prefix) (take l.place (items l.vrps));
  valid : l.valid ≡ list_any (counts_and_matches l.but l.prefix l.origin) (take l.place (items l.vrps));
}

abbrev pub decreases-loop-place : goal.decreases-loop-place
decreases-loop-place l = count l.vrps - l.place

abbrev pub invariant-loop-vrp : goal.invariant-loop-vrp
invariant-loop-vrp l = record {
  found : l.found ≡ (l.initial.found || list_any (counts l.but l.prefix) (take l.vrp-index l.row));
  valid : l.valid ≡ (l.initial.valid || list_any (counts_and_matches l.but l.prefix l.origin) (take l.vrp-index l.row));
}
