-- The words of this crate that the clauses of crates above use, to import from one place.
pub use Rattle.routing_tree.specs.Links.{AreLinksOf}
pub use Rattle.routing_tree.specs.Placed.{AreSeedsAt, HandsOnPlainly, IsPlaced, own_seed}
pub use Rattle.routing_tree.specs.Trees.{HasPlaces, IsGrown, IsTreeOf, ParentsComeFirst}
pub use Rattle.routing_tree.specs.Ends.{AreEnds, SendBy, hop_by}
