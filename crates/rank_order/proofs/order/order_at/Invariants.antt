use Rattle.std.proofs.Common.{◌≡◌, ℕ, get_or, map, take}
use Rattle.rank_order.proofs.order.order_at.Given as goal

abbrev pub invariant-loop-place : goal.invariant-loop-place
invariant-loop-place l = l.order.items ≡ map (λ (p : ℕ). get_or l.ases p 0) (take l.place-index l.by_rank)
