-- The words of this crate that the clauses of crates above use, to import from one place.
pub use Rattle.stability_laws.specs.Entries.{seed_entry}
pub use Rattle.stability_laws.specs.Offers.{Offer, Setting, offer, offer_given, passed_on}
pub use Rattle.stability_laws.specs.Stable.{IsRight, IsStable}
pub use Rattle.stability_laws.specs.Plans.{ListsRising, Plan, announced_path, announcer_of, announcers_of, announces, empty_plan, has_prefix, leaks_in, prefixes_of, with_announcement}
pub use Rattle.stability_laws.specs.SeedEdits.{IsEditOf, IsEditWithin, edit_asn, edit_prefix, edited, without_announcement}
pub use Rattle.stability_laws.specs.Rounds.{AreRounds, seeds_of}
pub use Rattle.stability_laws.specs.Book.{PolicyBook, policy_at}
pub use Rattle.stability_laws.specs.World.{setting, setting_in}
pub use Rattle.stability_laws.specs.Laws.{IsHeight}
pub use Rattle.stability_laws.specs.BestView.{IsBestView, better_of}
pub use Rattle.stability_laws.specs.Steps.{IsStepWhole, low}
pub use Rattle.stability_laws.specs.Runs.{HasOnly, HasPieces}
pub use Rattle.stability_laws.specs.AnyOrder.{IsActivated}
pub use Rattle.stability_laws.specs.EntryTexts.{entry_row, entry_text, row}
