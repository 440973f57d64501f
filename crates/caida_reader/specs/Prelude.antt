-- The words of this crate that the clauses of crates above use, to import from one place.
pub use Rattle.caida_reader.specs.Value.{links_of}
pub use Rattle.caida_reader.specs.Progress.{Fails}
