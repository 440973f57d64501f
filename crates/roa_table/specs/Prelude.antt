-- The words of this crate that the clauses of crates above use, to import from one place.
pub use Rattle.roa_table.specs.Sets.{Payloads, payloads_code, taken}
pub use Rattle.roa_table.specs.Cover.{covering, of_prefix}
pub use Rattle.roa_table.specs.Files.{Gives, payloads_in}
