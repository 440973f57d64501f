use Rattle.std.proofs.Common.{◌≡◌, ℕ, suc}
use Rattle.leak_round.specs.Tables.{kept_in}
use Rattle.leak_round.proofs.AllRounds.{AreRoundsSoFar}
use Rattle.leak_round.proofs.moving.moved_rounds.Given as goal

abbrev pub invariant-loop-old : goal.invariant-loop-old
invariant-loop-old l = AreRoundsSoFar (λ before p f h. (a : ℕ) → h a ≡ kept_in l.moving.from.now l.moving.tables.now (suc before) p a) l.moving.plan.now l.fn.pool l.pool l.old-index l.rounds.items
