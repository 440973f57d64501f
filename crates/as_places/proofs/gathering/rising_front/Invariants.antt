use Rattle.std.proofs.Common.{◌≤◌, ◌<◌, ℕ, take, get_or}
use Rattle.std.specs.List.Sorted.{IsStrictlyIncreasing}
use Rattle.as_places.proofs.gathering.rising_front.Given as goal

abbrev pub invariant-loop-at : goal.invariant-loop-at
invariant-loop-at l = IsStrictlyIncreasing (take l.at l.ases) × ((k : ℕ) → k < l.at → get_or l.ases k 0 ≤ l.last)
