use Rattle.std.proofs.Common.{◌≡◌, ℕ, ◌<◌, length, take, slice_index}
use Rattle.cycle_check.specs.Stages.{times}
use Rattle.cycle_check.proofs.notifying.tally.Given as goal

abbrev pub invariant-loop-place : goal.invariant-loop-place
invariant-loop-place l = (p : ℕ) → p < length l.counts → slice_index l.counts p ≡ times p (take l.place-index l.items)
