use Rattle.std.proofs.Common.{◌≡◌, take, false, ◌&&◌}
use Rattle.std.specs.List.{list_any}
use Rattle.origin_validation.specs.Judging.{matches}
use Rattle.origin_validation.specs.Leaving.{is_left}
use Rattle.origin_validation.proofs.rows.some_matches.Given as goal

abbrev pub invariant-loop-vrp : goal.invariant-loop-vrp
invariant-loop-vrp l = list_any (λ v. is_left l.but v && matches l.prefix l.origin v) (take l.vrp-index l.row) ≡ false
