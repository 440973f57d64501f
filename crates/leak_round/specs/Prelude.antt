-- The words of this crate that the clauses of crates above use, to import from one place.
pub use Rattle.leak_round.specs.Limits.{IsWithinLimits}
pub use Rattle.leak_round.specs.Changes.{HasChanges}
pub use Rattle.leak_round.specs.Touched.{touches}
pub use Rattle.leak_round.specs.Edited.{plan_edited}
pub use Rattle.leak_round.specs.Rounds.{is_open, kept, plan_of, pool_of, round_count}
pub use Rattle.leak_round.specs.Plans.{IsOpenPlan, ases_told, kept_with, plan_after}
pub use Rattle.leak_round.specs.SeedPaths.{HaveAtMost}
pub use Rattle.leak_round.specs.Staying.{IsSettled, StaysRightInRounds}
