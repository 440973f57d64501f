-- The words of this crate that the clauses of crates above use, to import from one place.
pub use Rattle.activations.specs.Files.{Fails}
pub use Rattle.activations.specs.Named.{AreSound}
