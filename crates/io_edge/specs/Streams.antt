-- What is seen of real files and streams.
use Rattle.std.specs.Prelude.{ℕ, List, [], Option, Some, None}

-- What is left of the file that was begun, where that is told, and how many faults were counted.
pub record Reading : Type 0 where
  pub left : Option (List ℕ)
  pub faults : ℕ

-- What the stream holds, where that is told, and how many faults were counted.
pub record Writing : Type 0 where
  pub held : Option (List ℕ)
  pub faults : ℕ

-- what is left of a file, if one was begun; else nothing is left
abbrev pub left_of : {F : Type 0} → (F → Option (List ℕ)) → Option F → Option (List ℕ)
left_of remaining None = Some []
left_of remaining (Some file) = remaining file
