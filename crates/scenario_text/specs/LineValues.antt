-- A line of a script, as contracts see it.
use Rattle.std.specs.Prelude.{◌≢◌, ◌≤◌, ℕ, List, All, length}
use Rattle.scenario_text.specs.declared.acts.Act.{Act}
use Rattle.scenario_text.specs.declared.acts.Act.TheVariants as act
use Rattle.scenario_text.specs.declared.acts.Edit.{Edit}
use Rattle.scenario_text.specs.declared.acts.Edit.TheVariants as edit
use Rattle.scenario_text.specs.declared.limits.TheConstants.{MOST_NUMBERS}

-- a line is its number in the file, where skipped lines count, and what it asks for (own format)
pub record LineValue : Type 0 where
  pub number : ℕ
  pub act : Act

-- the two ASes of a link differ, and an announced path has 1 to 64 numbers (own format)
abbrev pub IsWellFormed : Edit → Type 0
IsWellFormed (edit.Link a b rel) = a ≢ b
IsWellFormed (edit.Announce prefix path) = (1 ≤ length path) × (length path ≤ MOST_NUMBERS)
IsWellFormed e = Unit {0}

-- what a line asks for is no edit, or one that is well formed (own format)
abbrev pub IsSoundAct : Act → Type 0
IsSoundAct (act.Edit e) = IsWellFormed e
IsSoundAct (act.Query q) = Unit {0}

-- so of all lines (own format)
abbrev pub AreSoundLines : List LineValue → Type 0
AreSoundLines lines = All (λ line. IsSoundAct line.act) lines
