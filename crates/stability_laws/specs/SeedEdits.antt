-- What an edit of the announcements makes of a plan.
use Rattle.std.specs.Prelude.{ℕ, ◌≤◌, IsTrue, length}
use Rattle.std.specs.FinMap as fin
use Rattle.net_names.specs.Prefixes.{PrefixValue}
use Rattle.stability_laws.specs.declared.seed_plan.edits.SeedEdit.{SeedEdit}
use Rattle.stability_laws.specs.declared.seed_plan.edits.SeedEdit.TheVariants.{Announce, Withdraw}
use Rattle.stability_laws.specs.Plans.{Plan, announcer_of, has_prefix, with_announcement}

-- the plan without an announcement; its prefixes and leakers stay
abbrev pub silent : Plan → Plan
silent plan = record plan { announced = fin.empty }

-- the plan in which the AS does not announce the prefix; the prefix stays
abbrev pub without_announcement : Plan → PrefixValue → ℕ → Plan
without_announcement plan p a = record plan { announced = fin.remove plan.announced (p, a) }

-- the prefix whose announcement is edited
abbrev pub edit_prefix : SeedEdit → PrefixValue
edit_prefix (Announce prefix path) = prefix
edit_prefix (Withdraw prefix a) = prefix

-- the AS whose announcement is edited
abbrev pub edit_asn : SeedEdit → ℕ
edit_asn (Announce prefix path) = announcer_of path
edit_asn (Withdraw prefix a) = a

-- the plan after the edit: the first AS of the path announces the prefix with this path, in place
-- of an earlier one, or the AS does not announce the prefix
abbrev pub edited : Plan → SeedEdit → Plan
edited plan (Announce prefix path) = with_announcement plan prefix path
edited plan (Withdraw prefix a) = without_announcement plan prefix a

-- an announced path has 1 to so many numbers
abbrev pub IsEditWithin : ℕ → SeedEdit → Type 0
IsEditWithin most (Announce prefix path) = (1 ≤ length path) × (length path ≤ most)
IsEditWithin most (Withdraw prefix a) = Unit {0}

-- the edit is of a prefix of the plan
abbrev pub IsEditOf : Plan → SeedEdit → Type 0
IsEditOf plan edit = IsTrue (has_prefix plan (edit_prefix edit))
