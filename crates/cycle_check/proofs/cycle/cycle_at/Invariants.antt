use Rattle.std.proofs.Common.{◌≡◌, ℕ, get_or, map, take}
use Rattle.cycle_check.proofs.cycle.cycle_at.Given as goal

abbrev pub invariant-loop-place : goal.invariant-loop-place
invariant-loop-place l = l.numbers.items ≡ map (λ (p : ℕ). get_or l.ases p 0) (take l.place-index l.places)
