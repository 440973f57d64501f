-- The words of this crate that the clauses of crates above use, to import from one place.
pub use Rattle.sim_core.specs.World.{HasCycle, World, has_round, kind_at, topology}
pub use Rattle.sim_core.specs.Kept.{IsKept}
pub use Rattle.sim_core.specs.Loaded.{is_other, world_of}
pub use Rattle.sim_core.specs.Loading.{IsLoadRefusal}
pub use Rattle.sim_core.specs.Watching.{GoesOnInside}
pub use Rattle.sim_core.specs.Parts.{AreRoundsOf}
pub use Rattle.sim_core.specs.Bases.{base_world}
pub use Rattle.sim_core.specs.Sims.{kept, world_seen}
pub use Rattle.sim_core.specs.Lent.{IsGraphOf}
