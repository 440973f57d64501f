-- The words of this crate that the clauses of crates above use, to import from one place.
pub use Rattle.policy_laws.specs.Policy.{is_own_or_customers}
pub use Rattle.policy_laws.specs.Plain.{IsOf, IsPlain, IsStance, SendsPlainly, TakesPlainly}
