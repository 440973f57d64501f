use Rattle.std.proofs.Common.{◌≡◌, ℕ, ◌-◌, ◌≤◌, length}
use Rattle.stability_laws.specs.Plans.{prefixes_of}
use Rattle.leak_round.specs.Tables.{kept_in}
use Rattle.leak_round.proofs.Rounding.{IsRoundSoFar}
use Rattle.leak_round.proofs.moving.moved_round.Given as goal

abbrev pub invariant-prefixes : goal.invariant-prefixes
invariant-prefixes l = record {
  so_far : IsRoundSoFar (λ p f. (a : ℕ) → f a ≡ kept_in l.moving.from.now l.moving.tables.now l.round p a) l.moving.plan.now l.fn.pool l.pool l.tables l.place;
  within : l.place ≤ length (prefixes_of l.moving.plan.now);
}

abbrev pub decreases-prefixes : goal.decreases-prefixes
decreases-prefixes l = length (prefixes_of l.moving.plan.now) - l.place
