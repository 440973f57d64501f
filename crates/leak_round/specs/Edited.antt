-- Another plan of seeds beside that of the rounds.
use Rattle.std.specs.Prelude.{◌≡◌, ℕ, ◌+◌, ◌≤◌, not, Option, Some, option_map, List, [], ◌∷◌, ◌++◌, filter, length}
use Rattle.std.specs.Option.{option_map_or}
use Rattle.net_names.specs.Prefixes.{PrefixValue}
use Rattle.path_pool.specs.declared.path_id.PathId.{PathId}
use Rattle.path_pool.specs.declared.pool.PathPool.{PathPool}
use Rattle.path_pool.specs.Pool.{IsLive, list_of, holds_of, count_of, limit_of, live_count}
use Rattle.stability_laws.specs.declared.seed_plan.edits.SeedEdit.{SeedEdit}
use Rattle.stability_laws.specs.declared.seed_plan.edits.SeedEdit.TheVariants.{Announce, Withdraw}
use Rattle.stability_laws.specs.Plans.{Plan, announcer_of}
use Rattle.stability_laws.specs.SeedEdits.{edited, edit_asn, IsEditOf, IsEditWithin}
use Rattle.route_choice.specs.declared.counts.TheConstants.{MOST_COUNTED}
use Rattle.leak_round.specs.declared.announced.Announced.{Announced}
use Rattle.leak_round.specs.declared.edited.EditedSeeds.{EditedSeeds}
use Rattle.leak_round.specs.declared.limits.TheConstants.{MOST_ANNOUNCEMENTS, MOST_NUMBERS}
use Rattle.leak_round.specs.Announced.{is_of, announced_uses, AreAnnounced}
use Rattle.leak_round.specs.Growth.{KeepsPaths}
use Rattle.leak_round.specs.Limits.{IsWithinLimits}
use Rattle.leak_round.specs.OwnSeeds.{AreOthersKept, AreOwn, AreOwnEdited}

-- how often an announced path of the plan of seeds after it is used
abbrev pub edited_uses : Option EditedSeeds → ℕ → ℕ
edited_uses edited k = option_map_or (λ e. announced_uses e.announced.items k) edited 0

-- how often an announced path is used that another plan of seeds replaces
abbrev pub given_up : Option EditedSeeds → List Announced → ℕ → ℕ
given_up edited xs k = option_map_or (λ e. announced_uses xs k) edited 0

-- the announcements after the plan, with their paths in the pool
abbrev pub announced_after : Option EditedSeeds → List Announced → List Announced
announced_after edited xs = option_map_or (λ e. e.announced.items) edited xs

-- another plan of seeds has the same prefixes and is within the limits, and its announced paths stand in the pool
pub record AreSeedsOf (pool : PathPool) (plan : Plan) (e : EditedSeeds) : Type 0 where
  pub prefixes : e.plan.prefixes ≡ plan.prefixes
  pub limits : IsWithinLimits e.plan
  pub announced : AreAnnounced pool e.plan e.announced.items

-- so it is, where there is another plan of seeds
abbrev pub AreEdited : PathPool → Plan → Option EditedSeeds → Type 0
AreEdited pool plan edited = (e : EditedSeeds) → edited ≡ Some e → AreSeedsOf pool plan e

-- the announcements but that of the prefix by the AS
abbrev pub others_of : PrefixValue → ℕ → List Announced → List Announced
others_of prefix a xs = filter (λ x. not (is_of prefix a x)) xs

-- each of the announcements has one hold more, each path that was live is live and the same, at most n cells more are live, and no count rises by more than one for each announcement that there may be, and one
pub record AreHeldToo (old new : PathPool) (xs : List Announced) (n : ℕ) : Type 0 where
  pub holds : (k : ℕ) → holds_of new k ≡ holds_of old k + announced_uses xs k
  pub keeps : KeepsPaths old new
  pub cells : live_count new ≤ live_count old + n
  pub counts : (k : ℕ) → count_of new k ≤ count_of old k + MOST_ANNOUNCEMENTS + 1

-- behind the announcements that were there stands one of the prefix by the first AS of the path, which stands in the pool
pub record EndsWithPath (pool : PathPool) (prefix : PrefixValue) (path : List ℕ) (before after : List Announced) : Type 0 where
  pub id : PathId
  pub items : after ≡ before ++ record { prefix = prefix; asn = announcer_of path; path = id } ∷ []
  pub live : IsLive pool id.0
  pub list : list_of pool id.0 ≡ path

-- how many numbers the newly announced path of an edit has; none where an announcement goes
abbrev pub edit_numbers : SeedEdit → ℕ
edit_numbers (Announce prefix path) = length path
edit_numbers (Withdraw prefix a) = 0

-- the edit of the announcements can be made: its prefix is one of the plan, its path is short enough, and the plan after it is within the limits
pub record CanEdit (plan : Plan) (edit : SeedEdit) : Type 0 where
  pub known : IsEditOf plan edit
  pub within : IsEditWithin MOST_NUMBERS edit
  pub limits : IsWithinLimits (edited plan edit)

-- the announced paths of the plan stand in the pool, which has room for one more and for a further hold of each
pub record HasRoomToEdit (pool : PathPool) (plan : Plan) (xs : List Announced) : Type 0 where
  pub announced : AreAnnounced pool plan xs
  pub room : live_count pool + MOST_NUMBERS ≤ limit_of pool
  pub counts : (k : ℕ) → count_of pool k ≤ MOST_COUNTED

-- this is another plan of seeds, with its announced paths in the pool, for an edit of the AS by which a path of so many numbers is announced; of all other prefixes the same is announced
pub record AreMade (old new : PathPool) (plan after : Plan) (xs : List Announced) (a n : ℕ) (e : EditedSeeds) : Type 0 where
  pub seeds : AreSeedsOf new plan e
  pub plan_is : e.plan ≡ after
  pub asn_is : e.asn ≡ a
  pub numbers_is : e.numbers ≡ n
  pub few : e.numbers ≤ MOST_NUMBERS
  pub others : AreOthersKept (Some e.prefix) xs e.announced.items
  pub own : AreOwn e.announced.items e.prefix e.own
  pub held : AreHeldToo old new e.announced.items e.numbers

-- the plan of seeds after another one has taken its place, where there is one
abbrev pub seeds_after : Option EditedSeeds → Plan → Plan
seeds_after edited plan = option_map_or (λ e. e.plan) edited plan

-- the plan of seeds after the edit, where there is one
abbrev pub plan_edited : Option SeedEdit → Plan → Plan
plan_edited edit plan = option_map_or (λ e. edited plan e) edit plan

-- how many numbers the newly announced path has, where there is one
abbrev pub new_numbers : Option EditedSeeds → ℕ
new_numbers edited = option_map_or (λ e. e.numbers) edited 0

-- the prefix of which an announcement is edited, if one is
abbrev pub prefix_edited : Option EditedSeeds → Option PrefixValue
prefix_edited edited = option_map (λ e. e.prefix) edited

-- the seeds after an edit, where there is one: its announced paths stand in the pool, each with a hold more, each path that was live is live and the same, and of all other prefixes the same is announced
pub record IsEdited (old new : PathPool) (plan : Plan) (xs : List Announced) (edit : Option SeedEdit) (o : Option EditedSeeds) : Type 0 where
  pub seeds : AreEdited new plan o
  pub plan_is : seeds_after o plan ≡ plan_edited edit plan
  pub asn_is : option_map (λ e. e.asn) o ≡ option_map edit_asn edit
  pub numbers_is : new_numbers o ≡ option_map_or edit_numbers edit 0
  pub few : new_numbers o ≤ MOST_NUMBERS
  pub others : AreOthersKept (prefix_edited o) xs (announced_after o xs)
  pub own : AreOwnEdited o
  pub holds : (k : ℕ) → holds_of new k ≡ holds_of old k + edited_uses o k
  pub keeps : KeepsPaths old new
  pub cells : live_count new ≤ live_count old + new_numbers o
  pub counts : (k : ℕ) → count_of new k ≤ count_of old k + MOST_ANNOUNCEMENTS + 1
