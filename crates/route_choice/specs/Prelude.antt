-- The words of this crate that the clauses of crates above use, to import from one place.
pub use Rattle.route_choice.specs.Holds.{GivesBack}
pub use Rattle.route_choice.specs.Tables.{change_at, held_at, joined, overlay_uses, places_of, prefix_of, seed_at, table_uses, HasRoomForChanges}
pub use Rattle.route_choice.specs.Routings.{entry_of, routing_of, seed_of, seeds_of, table_routing}
pub use Rattle.route_choice.specs.PrefixWorlds.{AreGiversAt, HasLoopsFromAt, HasNoLoopsAt, named_at, setting_at}
pub use Rattle.route_choice.specs.Choices.{IsStepOf, named_by}
pub use Rattle.route_choice.specs.Views.{goes_through}
pub use Rattle.route_choice.specs.Resources.{AreEntriesLive, AreHeld, AreSeedsLive, CanStep, IsNameable, Keeps}
pub use Rattle.route_choice.specs.Visits.{IsVisit}
pub use Rattle.route_choice.specs.Named.{Takes}
pub use Rattle.route_choice.specs.AsnSets.{is_among}
pub use Rattle.route_choice.specs.NamedSets.{is_named}
pub use Rattle.route_choice.specs.Naming.{AreNamed}
pub use Rattle.route_choice.specs.RoundTables.{AreAllLive, AreByPrefix, round_routing, table_at}
pub use Rattle.route_choice.specs.Leads.{ArePlainSenders}
