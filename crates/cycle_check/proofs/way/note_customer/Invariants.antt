use Rattle.std.proofs.Common.{ℕ, ◌<◌, length, take, slice_index}
use Rattle.cycle_check.specs.Ways.{IsNoted}
use Rattle.cycle_check.proofs.way.note_customer.Given as goal

abbrev pub invariant-loop-provider : goal.invariant-loop-provider
invariant-loop-provider l = (p : ℕ) → p < length l.below → IsNoted (take l.provider-index l.providers) l.customer p (slice_index l.fn.below p) (slice_index l.below p)
