-- When a printed table is accepted, and what is told where it isn't.
use Rattle.std.specs.Prelude.{◌≡◌, ◌⊎◌, ℕ, suc, ◌<◌, true, false, Option, None, length}
use Rattle.stability_laws.specs.declared.entry.Entry.{Entry}
use Rattle.stability_laws.specs.Answers.{IsRightWith}
use Rattle.stability_laws.specs.Offers.{Setting}
use Rattle.stability_laws.specs.Plans.{Plan}
use Rattle.stability_laws.specs.Rounds.{seeds_of}
use Rattle.table_check.specs.declared.tables.Tables.{Tables}
use Rattle.table_check.specs.declared.verdict.Verdict.{Verdict}
use Rattle.table_check.specs.declared.verdict.Verdict.TheVariants.{Stable, Wrong}
use Rattle.table_check.specs.Rows.{held_by}

-- in the section after `last`, a is right with this, or with nothing: an AS of the world with what
-- the others hold there and with the seeds that follow from the section before, any other number
-- with nothing (own rule)
abbrev pub IsRightIn : Setting → Plan → Tables → ℕ → ℕ → Option Entry → Type 0
IsRightIn w plan t last a held = (w.has a ≡ true → IsRightWith w (seeds_of plan (suc last) t.prefix
    (held_by t.rows last)) (held_by t.rows (suc last)) a held) × (w.has a ≡ false → held ≡ None)

-- in the section after `before`, a is right with what it holds there (own rule)
abbrev pub IsInOrder : Setting → Plan → Tables → ℕ → ℕ → Type 0
IsInOrder w plan t before a = IsRightIn w plan t before a (held_by t.rows (suc before) a)

-- in the section after `before`, the first with somebody who isn't right, a is the lowest such, and
-- would be right with `right` (own rule)
pub record IsFirstWrong (w : Setting) (plan : Plan) (t : Tables) (before a : ℕ) (right : Option Entry) : Type 0 where
  pub within : before < length t.starts
  pub wrong : IsInOrder w plan t before a → ⊥
  pub first : (k b : ℕ) → (k < before) ⊎ ((k ≡ before) × (b < a)) → IsInOrder w plan t k b
  pub answer : IsRightIn w plan t before a right

-- the table is accepted: everybody is right in each section (own rule)
abbrev pub IsAccepted : Setting → Plan → Tables → Type 0
IsAccepted w plan t = (before a : ℕ) → before < length t.starts → IsInOrder w plan t before a

-- Stable says that the table is accepted, and Wrong where the first fault is (own rule)
abbrev pub IsVerdict : Setting → Plan → Tables → Verdict → Type 0
IsVerdict w plan t Stable = IsAccepted w plan t
IsVerdict w plan t (Wrong round a right) = (before : ℕ) × (round ≡ suc before) × IsFirstWrong w plan t before a right
