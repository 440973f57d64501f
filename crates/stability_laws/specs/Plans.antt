-- Who announces what, and who leaks in which round.
use Rattle.std.specs.Prelude.{◌≡◌, ℕ, ◌<◌, ◌≤◌, Bool, ◌==◌, is_some, IsTrue, Option, Some, List, map, filter, length, slice_get, refl, slice_index}
use Rattle.std.specs.declared.cmp.Ordering.{Ordering}
use Rattle.std.specs.declared.cmp.Ordering.TheVariants.{Less}
use Rattle.std.specs.Ordering.{nat_cmp}
use Rattle.std.specs.FinMap as fin
use Rattle.std.specs.FinSet as set
use Rattle.std.specs.Coded.{Coded, code_by, coded×, coded_ℕ, coded_list}
use Rattle.net_names.specs.Prefixes.{PrefixValue, prefix_code, prefix_cmp}
pub use Rattle.net_names.specs.Prefixes.{announcement_cmp}
use Rattle.net_names.specs.Links.{pair_cmp}
use Rattle.net_names.specs.declared.limits.TheConstants.{MOST_IN_PATH}

-- a plan has the prefixes, the path that an AS announces of a prefix, and which AS leaks in which round
pub record Plan : Type 0 where
  pub prefixes : set.FinSet prefix_cmp
  pub announced : fin.FinMap announcement_cmp (List ℕ)
  pub leakers : set.FinSet pair_cmp

-- a plan is stored as the triple of its members
abbrev pub plan_code : Coded Plan
plan_code =
    code_by (set.FinSet prefix_cmp × (fin.FinMap announcement_cmp (List ℕ) × set.FinSet pair_cmp))
    (coded× (set.code prefix_code) (coded× (fin.code (coded× prefix_code coded_ℕ) (coded_list coded_ℕ)) (set.code (coded× coded_ℕ coded_ℕ))))
    (λ p. (p.prefixes, (p.announced, p.leakers))) (λ t. record { prefixes = t.0; announced = t.1.0; leakers = t.1.1 }) (λ _. refl)

-- the plan has the prefix
abbrev pub has_prefix : Plan → PrefixValue → Bool
has_prefix plan prefix = fin.contains_key plan.prefixes prefix

-- the path that the AS announces of the prefix, where it announces it
abbrev pub announced_path : Plan → PrefixValue → ℕ → Option (List ℕ)
announced_path plan prefix a = fin.get plan.announced (prefix, a)

-- the AS announces the prefix
abbrev pub announces : Plan → PrefixValue → ℕ → Bool
announces plan prefix a = is_some (announced_path plan prefix a)

-- the AS leaks in the round
abbrev pub leaks_in : Plan → ℕ → ℕ → Bool
leaks_in plan round a = fin.contains_key plan.leakers (round, a)

-- the plan in which nobody announces or leaks anything
abbrev pub empty_plan : Plan
empty_plan = record { prefixes = fin.empty; announced = fin.empty; leakers = fin.empty }

-- a path is announced by its first AS (RFC 4271, section 5.1.2)
abbrev pub announcer_of : List ℕ → ℕ
announcer_of path = slice_index path 0

-- the plan in which the first AS of the path announces the path of the prefix too (RFC 4271, section 5.1.2)
abbrev pub with_announcement : Plan → PrefixValue → List ℕ → Plan
with_announcement plan p path = record plan { prefixes = fin.insert plan.prefixes p tt; announced = fin.insert plan.announced (p, slice_index path 0) path }

-- the plan in which the AS leaks in the round too
abbrev pub with_leaker : Plan → ℕ → ℕ → Plan
with_leaker plan round a = record plan { leakers = fin.insert plan.leakers (round, a) tt }

-- each announced path starts with its AS and has at most MOST_IN_PATH numbers, its prefix is one of
-- the plan's, and there are leakers in rounds from 2 on alone
pub record IsSound (plan : Plan) : Type 0 where
  pub starts : (prefix : PrefixValue) (a : ℕ) (path : List ℕ) → announced_path plan prefix a ≡ Some path → slice_get path 0 ≡ Some a
  pub short : (prefix : PrefixValue) (a : ℕ) (path : List ℕ) → announced_path plan prefix a ≡ Some path → length path ≤ MOST_IN_PATH
  pub known : (prefix : PrefixValue) (a : ℕ) (path : List ℕ) → announced_path plan prefix a ≡ Some path → IsTrue (has_prefix plan prefix)
  pub later : (round a : ℕ) → IsTrue (leaks_in plan round a) → 2 ≤ round

-- the prefixes of the plan in their order
abbrev pub prefixes_of : Plan → List PrefixValue
prefixes_of plan = fin.keys plan.prefixes

-- the ASes that announce a prefix, in rising order
abbrev pub announcers_of : Plan → List ℕ
announcers_of plan = fin.keys (fin.from_entries {R = nat_cmp} (map (λ x. (x.1, tt {0})) (fin.keys plan.announced)))

-- of pairs of a round and an AS, the ASes of that round
abbrev pub in_round : ℕ → List (ℕ × ℕ) → List ℕ
in_round round pairs = map (λ x. x.1) (filter (λ x. x.0 == round) pairs)

-- the ASes that leak in the round, in rising order
abbrev pub leakers_of : Plan → ℕ → List ℕ
leakers_of plan round = in_round round (fin.keys plan.leakers)

-- the AS announces a prefix of the plan
pub record IsAnnouncer (plan : Plan) (a : ℕ) : Type 0 where
  pub prefix : PrefixValue
  pub path : List ℕ
  pub announced : announced_path plan prefix a ≡ Some path

-- the list has all that is meant, nothing else, and rises, so that nothing stands twice
pub record ListsRising {K : Type 0} (cmp : K → K → Ordering) (IsMeant : K → Type 0) (xs : List K) : Type 0 where
  pub whole : (k : K) → IsMeant k → (place : ℕ) × (slice_get xs place ≡ Some k)
  pub only : (place : ℕ) (k : K) → slice_get xs place ≡ Some k → IsMeant k
  pub rises : (i j : ℕ) (x y : K) → i < j → slice_get xs i ≡ Some x → slice_get xs j ≡ Some y → cmp x y ≡ Less
