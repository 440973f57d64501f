-- The words of this crate that the clauses of crates above use, to import from one place.
pub use Rattle.io_edge.specs.Faults.{HasCause, HasRisen, KeepsNames}
pub use Rattle.io_edge.specs.Bytes.{AppendsFront}
pub use Rattle.io_edge.specs.Whole.{TakesAtMost}
