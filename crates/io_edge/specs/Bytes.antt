-- What a sink holds where it tells its bytes. A sink that tells them after a call told them before it.
use Rattle.std.specs.Prelude.{ℕ, ◌≤◌, ◌≡◌, List, ◌++◌, length, take, Option, IfSome, IsSomeAnd}

-- Where the bytes are told now, they were told before, and these were appended.
abbrev pub Appends : Option (List ℕ) → Option (List ℕ) → List ℕ → Type 0
Appends old new bytes = IfSome new (λ now. IsSomeAnd old (λ before. now ≡ before ++ bytes))

-- A front of these bytes was appended.
abbrev pub AppendsFront : Option (List ℕ) → Option (List ℕ) → List ℕ → Type 0
AppendsFront old new bytes = (n : ℕ) × (n ≤ length bytes) × Appends old new (take n bytes)
