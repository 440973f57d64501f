-- The words of this crate that the clauses of crates above use, to import from one place.
pub use Rattle.policy_kinds.specs.Kinds.{kind_policy, label}
pub use Rattle.policy_kinds.specs.Names.{kind_named}
