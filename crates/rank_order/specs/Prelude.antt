-- The words of this crate that the clauses of crates above use, to import from one place.
pub use Rattle.rank_order.specs.Ranks.{rank_at}
pub use Rattle.rank_order.specs.Plans.{IsLastPlan, rank_after}
pub use Rattle.rank_order.specs.Staying.{RanksStay, StayWith}
