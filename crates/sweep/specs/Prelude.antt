-- The words of this crate that the clauses of crates above use, to import from one place.
pub use Rattle.sweep.specs.Trials.{changed, with_kinds}
pub use Rattle.sweep.specs.Written.{Stops, Writes}
