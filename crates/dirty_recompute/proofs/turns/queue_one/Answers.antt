use Rattle.std.proofs.Common.{◌≡◌, ℕ, sym, subst}
use Rattle.dirty_recompute.specs.PlannedRanks.{rank_of}
use Rattle.dirty_recompute.specs.Turns.{MayBeLeft}
use Rattle.dirty_recompute.proofs.QueueLemmas.{queued_none}
use Rattle.dirty_recompute.proofs.turns.queue_one.Goals as goal

pub returns-else-not-is_left_out : goal.returns-else-not-is_left_out
returns-else-not-is_left_out g c =
    let may : ℕ → Type 0 = MayBeLeft g.P.RoutePolicy.meaning g.V.OriginStates.state_of c.args.after.now in
    let left : may c.args.placed.now.neighbour.asn = c.is_left_out.ensures c.if-not-is_left_out.false in
    queued_none (rank_of c.args.after.now.world.now.ranks) c.args.queue.now (λ b. (b ≡ c.args.placed.now.neighbour.asn) × (c.args.placed.now.neighbour.rel ≡ c.args.wanted)) may (λ b is. subst may (sym is.0) left)
