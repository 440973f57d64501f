-- How large a plan may be.
use Rattle.std.specs.Prelude.{◌≡◌, ℕ, ◌≤◌, Some, List, length}
use Rattle.std.specs.List.{sum_by}
use Rattle.std.specs.Option.{option_map_or}
use Rattle.std.specs.FinMap as fin
use Rattle.net_names.specs.Prefixes.{PrefixValue}
use Rattle.stability_laws.specs.Plans.{Plan, announced_path, prefixes_of}
use Rattle.leak_round.specs.declared.limits.TheConstants.{MOST_ANNOUNCEMENTS, MOST_NUMBERS, MOST_PREFIXES}

-- a plan within the limits has at most 32 prefixes and 64 announcements, whose paths have at most 64 numbers
pub record IsWithinLimits (plan : Plan) : Type 0 where
  pub prefixes : length (prefixes_of plan) ≤ MOST_PREFIXES
  pub announcements : fin.len plan.announced ≤ MOST_ANNOUNCEMENTS
  pub paths : (prefix : PrefixValue) (a : ℕ) (path : List ℕ) → announced_path plan prefix a ≡ Some path → length path ≤ MOST_NUMBERS

-- how many numbers the announced paths have in all
abbrev pub numbers_of : Plan → ℕ
numbers_of plan = sum_by (λ e. length e.1) (fin.entries plan.announced)

-- how many numbers the path has that the AS announces of the prefix
abbrev pub announced_length : Plan → PrefixValue → ℕ → ℕ
announced_length plan prefix a = option_map_or (λ (path : List ℕ). length path) (announced_path plan prefix a) 0

-- 1 where the AS announces the prefix, else 0
abbrev pub announced_count : Plan → PrefixValue → ℕ → ℕ
announced_count plan prefix a = option_map_or (λ (path : List ℕ). 1) (announced_path plan prefix a) 0
