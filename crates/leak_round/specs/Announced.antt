-- The announced paths in a pool.
use Rattle.std.specs.Prelude.{◌≡◌, ℕ, ◌≤◌, Bool, ◌&&◌, ◌==◌, if◌then◌else◌, Option, None, Some, IsSome, IsTrue, option_map, List, length, fold, count_by, slice_get}
use Rattle.std.specs.FinMap as fin
use Rattle.net_names.specs.Prefixes.{PrefixValue}
use Rattle.net_names.specs.contracts.prefixes.PrefixPartialEq.TheImpl as same_prefix
use Rattle.path_pool.specs.declared.path_id.PathId.{PathId}
use Rattle.path_pool.specs.declared.pool.PathPool.{PathPool}
use Rattle.path_pool.specs.Pool.{IsLive, list_of, holds_of, count_of, live_count}
use Rattle.stability_laws.specs.Plans.{Plan, announced_path, has_prefix}
use Rattle.route_choice.specs.declared.held.SeedHeld.{SeedHeld}
use Rattle.leak_round.specs.declared.announced.Announced.{Announced}

-- the announcement is that of the prefix by the AS
abbrev pub is_of : PrefixValue → ℕ → Announced → Bool
is_of prefix a x = (same_prefix.ghosts).eq x.prefix prefix && (x.asn == a)

-- where the path stands that the AS announces of the prefix
abbrev pub own_path : List Announced → PrefixValue → ℕ → Option PathId
own_path xs prefix a = fold (λ found x. if is_of prefix a x then Some x.path else found) None xs

-- how many announcements have the path
abbrev pub announced_uses : List Announced → ℕ → ℕ
announced_uses xs k = count_by (λ x. x.path.0 == k) xs

-- an announced path as a seed, without a number
abbrev pub own_seed : PathId → SeedHeld
own_seed id = record { path = id; otc = None }

-- each announcement is one of the plan, and its path is live
abbrev pub AreOfPlan : PathPool → Plan → List Announced → Type 0
AreOfPlan pool plan xs = (place : ℕ) (x : Announced) → slice_get xs place ≡ Some x → IsLive pool x.path.0 × (announced_path plan x.prefix x.asn ≡ Some (list_of pool x.path.0))

-- each path that stands in the pool for an announcement is live and the announced one, each has one hold, and no cell has more
pub record IsAnnouncing (pool : PathPool) (plan : Plan) (xs : List Announced) : Type 0 where
  pub live : (prefix : PrefixValue) (a : ℕ) (id : PathId) → own_path xs prefix a ≡ Some id → IsLive pool id.0
  pub sound : (prefix : PrefixValue) (a : ℕ) (id : PathId) → own_path xs prefix a ≡ Some id → announced_path plan prefix a ≡ Some (list_of pool id.0)
  pub each : AreOfPlan pool plan xs
  pub holds : (k : ℕ) → holds_of pool k ≡ announced_uses xs k
  pub counts : (k : ℕ) → count_of pool k ≤ live_count pool

-- who has announced something has announced it still
abbrev pub KeepsAnnounced : List Announced → List Announced → Type 0
KeepsAnnounced old new = (prefix : PrefixValue) (a : ℕ) → IsSome (own_path old prefix a) → IsSome (own_path new prefix a)

-- the paths of the announcements stand in the pool, and who has announced something has announced it still
pub record AnnouncesMore (pool : PathPool) (plan : Plan) (old new : List Announced) : Type 0 where
  pub so_far : IsAnnouncing pool plan new
  pub kept : KeepsAnnounced old new

-- what the AS announces of the prefix in the plan stands in the pool
abbrev pub HasAnnounced : Plan → List Announced → PrefixValue → ℕ → Type 0
HasAnnounced plan xs prefix a = IsSome (announced_path plan prefix a) → IsSome (own_path xs prefix a)

-- the announcements are just those that the plan has of its prefixes, with their paths, which are live, and they are no more than those of the plan
pub record AreAnnounced (pool : PathPool) (plan : Plan) (xs : List Announced) : Type 0 where
  pub live : (prefix : PrefixValue) (a : ℕ) (id : PathId) → own_path xs prefix a ≡ Some id → IsLive pool id.0
  pub each : AreOfPlan pool plan xs
  pub paths : (prefix : PrefixValue) (a : ℕ) → IsTrue (has_prefix plan prefix) → option_map (λ id. list_of pool id.0) (own_path xs prefix a) ≡ announced_path plan prefix a
  pub few : length xs ≤ fin.len plan.announced
