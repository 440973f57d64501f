-- The words of this crate that the clauses of crates above use, to import from one place.
pub use Rattle.origin_validation.specs.Judging.{state_of}
pub use Rattle.origin_validation.specs.Leaving.{less}
