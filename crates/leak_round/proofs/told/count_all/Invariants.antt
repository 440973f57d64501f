use Rattle.std.proofs.Common.{◌≡◌, take}
use Rattle.leak_round.specs.Overlays.{changes_count}
use Rattle.leak_round.proofs.told.count_all.Given as goal

abbrev pub invariant-loop-change : goal.invariant-loop-change
invariant-loop-change l = l.count ≡ changes_count (take l.change-index l.changes)
