-- Scenarios: four lists, and when they are a scenario's (own format).
use Rattle.std.specs.Prelude.{◌≡◌, ◌≢◌, ℕ, ◌-◌, ◌≤◌, List, [], ◌∷◌, ◌++◌, All, length, slice_get, slice_index_or, slice_set, map, Some}
use Rattle.std.specs.List.{AllPairs}
use Rattle.std.specs.Ordering.{eq_by_cmp}
use Rattle.std.specs.Set.{distinct_count}
use Rattle.net_names.specs.Addresses.{AddrValue}
use Rattle.net_names.specs.Prefixes.{PrefixValue, prefix_cmp}
use Rattle.policy_kinds.specs.declared.kind.Kind.{Kind}
use Rattle.scenario_text.specs.declared.scenario.Announcement.{Announcement}
use Rattle.scenario_text.specs.declared.limits.TheConstants.{MOST_ANNOUNCEMENTS, MOST_LEAK_LISTS, MOST_LEAKERS, MOST_NUMBERS, MOST_PREFIXES, MOST_WATCHED}

-- a scenario is what is announced, which AS has which policy, who leaks in each round after the first, and which addresses are watched (own format)
pub record ScenarioValue : Type 0 where
  pub announcements : List Announcement
  pub policies : List (ℕ × Kind)
  pub leaks : List (List ℕ)
  pub watch : List AddrValue

-- the scenario with four empty lists (own format)
abbrev pub nothing : ScenarioValue
nothing = record { announcements = []; policies = []; leaks = []; watch = [] }

-- an announcement is named by its prefix and its AS (own format)
abbrev pub announcement_name : Announcement → PrefixValue × ℕ
announcement_name a = (a.prefix, a.asn)

-- how many different prefixes are announced (own format)
abbrev pub prefix_count : List Announcement → ℕ
prefix_count list = distinct_count (eq_by_cmp prefix_cmp) (map (λ a. a.prefix) list)

-- the last list of leakers, empty where there is none (own format)
abbrev pub last_leakers : List (List ℕ) → List ℕ
last_leakers leaks = slice_index_or leaks (length leaks - 1) []

-- the lists of leakers with one more leaker at the end of the last of them (own format)
abbrev pub with_leaker : List (List ℕ) → ℕ → List (List ℕ)
with_leaker leaks asn = slice_set leaks (length leaks - 1) (last_leakers leaks ++ asn ∷ [])

-- a path starts with this AS (own format)
abbrev pub StartsWith : ℕ → List ℕ → Type 0
StartsWith asn path = slice_get path 0 ≡ Some asn

-- nothing is named twice, no limit is passed, and each path starts with its announcement's AS (own format)
pub record IsScenario (s : ScenarioValue) : Type 0 where
  pub announced_once : AllPairs (λ a b. announcement_name a ≢ announcement_name b) s.announcements
  pub ruled_once : AllPairs (λ p q. p.0 ≢ q.0) s.policies
  pub leaking_once : All (λ leakers. AllPairs (λ m n. m ≢ n) leakers) s.leaks
  pub watched_once : AllPairs (λ a b. a ≢ b) s.watch
  pub few_announcements : length s.announcements ≤ MOST_ANNOUNCEMENTS
  pub few_prefixes : prefix_count s.announcements ≤ MOST_PREFIXES
  pub short_paths : All (λ a. length a.path ≤ MOST_NUMBERS) s.announcements
  pub few_rounds : length s.leaks ≤ MOST_LEAK_LISTS
  pub few_leakers : All (λ leakers. length leakers ≤ MOST_LEAKERS) s.leaks
  pub few_watched : length s.watch ≤ MOST_WATCHED
  pub own_paths : All (λ a. StartsWith a.asn a.path) s.announcements
