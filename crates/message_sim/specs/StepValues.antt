-- A step of a file of deliveries, as contracts see it.
use Rattle.std.specs.Prelude.{ℕ, Option}

-- a step has the number of its line, the link whose turn it is, if it names one, and how many turns it asks for (own format)
pub record StepValue : Type 0 where
  pub line : ℕ
  pub link : Option (ℕ × ℕ)
  pub most : ℕ
