-- The words of this crate that the clauses of crates above use, to import from one place.
pub use Rattle.as_graph.specs.Topology.{Topology, as_count, has, relation, unmarked}
pub use Rattle.as_graph.specs.Hierarchy.{HasNoProviderCycle, IsProviderCycle, IsRank, RankFits}
pub use Rattle.as_graph.specs.Neighbours.{AreNeighbours, asns}
pub use Rattle.as_graph.specs.Room.{is_room_for, is_room_with}
pub use Rattle.as_graph.specs.Edits.{AsesAreKept, EditsAreUndone, LinksAreSet, LinksAreSound, LinksAreTaken, with_link, without_mark}
pub use Rattle.as_graph.specs.Following.{IsAbove}
pub use Rattle.as_graph.specs.Refusals.{IsLinkRefusal}
