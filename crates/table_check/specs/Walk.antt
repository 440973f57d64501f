-- A walk over the ASes and over who else holds something (private clauses cite these words).
use Rattle.std.specs.Prelude.{◌≡◌, ℕ, ◌+◌, ◌<◌, length, nat_lt, if◌then◌else◌, Bool, true, false, Option, None, Some}
use Rattle.as_graph.specs.Following.{IsAbove}
use Rattle.stability_laws.specs.declared.entry.Entry.{Entry}
use Rattle.stability_laws.specs.declared.entry.Seed.{Seed}
use Rattle.stability_laws.specs.Answers.{IsRightWith}
use Rattle.stability_laws.specs.Offers.{Setting}
use Rattle.table_check.specs.declared.placed.Brief.{Brief}
use Rattle.table_check.specs.declared.verdict.Fault.{Fault}

-- a is right with this, or with nothing: an AS of the world with these seeds and with what the
-- others hold, any other number with nothing (own rule)
pub record Fits (w : Setting) (seeds : ℕ → Option Seed) (f : ℕ → Option Entry) (a : ℕ) (held : Option Entry) : Type 0 where
  pub inside : w.has a ≡ true → IsRightWith w seeds f a held
  pub outside : w.has a ≡ false → held ≡ None

-- a is right with what it holds, or holds nothing and is no AS (own rule)
abbrev pub IsFine : Setting → (ℕ → Option Seed) → (ℕ → Option Entry) → ℕ → Type 0
IsFine w seeds f a = Fits w seeds f a (f a)

-- a isn't right, and all lower numbers are (own rule)
pub record IsLowestWrong (w : Setting) (seeds : ℕ → Option Seed) (f : ℕ → Option Entry) (a : ℕ) : Type 0 where
  pub wrong : IsFine w seeds f a → ⊥
  pub lowest : (b : ℕ) → b < a → IsFine w seeds f b

-- of one routing: everybody is right, or who is the lowest that isn't, and what it would be right with (own rule)
abbrev pub IsFault : Setting → (ℕ → Option Seed) → (ℕ → Option Entry) → Option Fault → Type 0
IsFault w seeds f None = (a : ℕ) → IsFine w seeds f a
IsFault w seeds f (Some fault) = IsLowestWrong w seeds f fault.asn × Fits w seeds f fault.asn fault.right

-- the number is no AS and holds nothing (own rule)
pub record IsUnnamed (has : ℕ → Bool) (f : ℕ → Option Entry) (a : ℕ) : Type 0 where
  pub outside : has a ≡ false
  pub empty : f a ≡ None

-- a is above the bound, and what is between them is no AS and holds nothing (own rule)
pub record IsNextNamed (has : ℕ → Bool) (f : ℕ → Option Entry) (bound : Option ℕ) (a : ℕ) : Type 0 where
  pub above : IsAbove bound a
  pub between : (k : ℕ) → IsAbove bound k → k < a → IsUnnamed has f k

-- what an offer of the entry shows without a look at its path: its class, its number, and how long
-- the path is with one AS more
abbrev pub brief_of : Entry → Brief
brief_of e = record { class = e.class; otc = e.otc; length = length e.path + 1 }

-- the lower one of two numbers that may be missing (own rule)
abbrev pub lower_of : Option ℕ → Option ℕ → Option ℕ
lower_of None other = other
lower_of (Some a) None = Some a
lower_of (Some a) (Some b) = if nat_lt b a then Some b else Some a
