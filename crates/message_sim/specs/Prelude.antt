-- The words of this crate that the clauses of crates above use, to import from one place.
pub use Rattle.message_sim.specs.Nets.{net_of}
pub use Rattle.message_sim.specs.Files.{Fails}
