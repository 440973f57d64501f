-- The words of this crate that the clauses of crates above use, to import from one place.
pub use Rattle.cycle_check.specs.Cycles.{without_pair}
pub use Rattle.cycle_check.specs.Counting.{ArePlacesByRank}
pub use Rattle.cycle_check.specs.Providers.{rank_by}
pub use Rattle.cycle_check.specs.Rankings.{numbers_of, rank_told, ranks_of}
