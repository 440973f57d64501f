-- What contracts see of a plan for rounds, and when it is the open one.
use Rattle.std.specs.Prelude.{◌≡◌, ◌≢◌, ◌⊎◌, ℕ, suc, zero, ◌+◌, ◌<◌, ◌≤◌, Bool, true, false, IsTrue, Option, None, Some, is_some, option_map, List, []}
use Rattle.std.specs.List.{slice_get}
use Rattle.std.specs.Option.{option_map_or}
use Rattle.std.specs.Ordering.{nat_cmp}
use Rattle.net_names.specs.declared.routes.State.{State}
use Rattle.net_names.specs.Prefixes.{PrefixValue}
use Rattle.as_graph.specs.Hierarchy.{HasNoProviderCycle, IsRank}
use Rattle.as_graph.specs.Topology.{has, relation}
use Rattle.path_pool.specs.Pool.{holds_of, live_count}
use Rattle.stability_laws.specs.declared.entry.Entry.{Entry}
use Rattle.policy_laws.specs.Policy.{Policy}
use Rattle.rank_order.specs.Plans.{rank_after, IsLastPlan}
use Rattle.stability_laws.specs.declared.seed_plan.edits.SeedEdit.{SeedEdit}
use Rattle.stability_laws.specs.declared.world.World.{World}
use Rattle.stability_laws.specs.Plans.{Plan, ListsRising, announces, has_prefix}
use Rattle.stability_laws.specs.Rounds.{AreRounds, seeds_of}
use Rattle.stability_laws.specs.SeedEdits.{edit_asn}
use Rattle.stability_laws.specs.Stable.{IsRight}
use Rattle.stability_laws.specs.World.{setting_in}
use Rattle.dirty_recompute.specs.declared.planned_ranks.PlannedRanks.{PlannedRanks}
use Rattle.leak_round.specs.declared.plans.RoundsPlan.{RoundsPlan}
use Rattle.leak_round.specs.declared.plans.RoundsDone.{RoundsDone}
use Rattle.leak_round.specs.declared.rounds.Rounds.{Rounds}
use Rattle.leak_round.specs.declared.rounds.TheConstants.{MOST_CELLS}
use Rattle.leak_round.specs.declared.touched.Touched.{Touched}
use Rattle.leak_round.specs.Bounds.{AreEnoughFor, Course}
use Rattle.leak_round.specs.Edited.{announced_after, edit_numbers, edited_uses, plan_edited, prefix_edited, AreEdited, CanEdit}
use Rattle.leak_round.specs.OwnSeeds.{AreOthersKept, AreOwnEdited}
use Rattle.leak_round.specs.Overlays.{change_in, laid_in, changes_uses, changes_count, AreChangesOf, AreFew}
use Rattle.leak_round.specs.Rounds.{is_open, plan_of, pool_of, round_count, kept, uses_of}
use Rattle.leak_round.specs.Touched.{touches}

-- what the plan has at the AS for the prefix in the round is a change
abbrev pub is_changed : RoundsPlan → ℕ → PrefixValue → ℕ → Bool
is_changed p round prefix a = is_some (change_in p.changes.items round prefix a)

-- what an AS holds of a prefix in a round with the plan's changes in place
abbrev pub kept_with : Rounds → RoundsPlan → ℕ → PrefixValue → ℕ → Option Entry
kept_with r p round prefix a = laid_in r.pool r.tables.items p.changes.items round prefix a

-- who announces what, and who leaks in which round, after the plan
abbrev pub plan_after : Rounds → RoundsPlan → Plan
plan_after r p = option_map_or (λ e. e.plan) p.edited r.plan

-- the AS whose announcement the plan edits, if it edits one
abbrev pub asn_edited : RoundsPlan → Option ℕ
asn_edited p = option_map (λ e. e.asn) p.edited

-- how many numbers the newly announced path has
abbrev pub numbers_added : RoundsPlan → ℕ
numbers_added p = option_map_or (λ e. e.numbers) p.edited 0

-- how many cells were live before the plan
abbrev pub cells_before : RoundsPlan → ℕ
cells_before p = p.before

-- how many entries changed, as it is told
abbrev pub count_told : RoundsDone → ℕ
count_told d = d.count

-- the ASes with a changed entry of a round, as they are told; none of a round that is not there
abbrev pub ases_told : RoundsDone → ℕ → List ℕ
ases_told d zero = []
ases_told d (suc before) = option_map_or (λ v. v.items) (slice_get d.changed.items before) []

-- the AS has a changed entry of the round, or its announcement is edited
abbrev pub IsTold : RoundsPlan → ℕ → ℕ → Type 0
IsTold p round a = ((prefix : PrefixValue) × IsTrue (is_changed p round prefix a)) ⊎ (asn_edited p ≡ Some a)

-- the plan is the open one of the rounds: the pool has just the holds of both, each change has its table and differs from what is kept, of each prefix but the edited one the same is announced, and what is told of the changes is so
pub record IsOpenPlan (r : Rounds) (p : RoundsPlan) : Type 0 where
  pub planned : is_open r ≡ true
  pub holds : (k : ℕ) → holds_of (pool_of r) k ≡ uses_of r k + (changes_uses p.changes.items k + edited_uses p.edited k)
  pub changes : AreChangesOf r.tables.items p.changes.items
  pub differs : (round : ℕ) (prefix : PrefixValue) (a : ℕ) → IsTrue (is_changed p round prefix a) → kept_with r p round prefix a ≢ kept r round prefix a
  pub few : (round : ℕ) (prefix : PrefixValue) → AreFew (kept_with r p round prefix)
  pub edited : AreEdited (pool_of r) (plan_of r) p.edited
  pub others : AreOthersKept (prefix_edited p.edited) r.announced.items (announced_after p.edited r.announced.items)
  pub own : AreOwnEdited p.edited
  pub count : count_told p.done ≡ changes_count p.changes.items
  pub told : (round : ℕ) → 1 ≤ round → round ≤ round_count r → ListsRising nat_cmp (IsTold p round) (ases_told p.done round)
  pub cells : live_count (pool_of r) ≤ cells_before p + count_told p.done + numbers_added p

-- the edit as the plan has it: the plans of seeds, and what is kept before it and with it
abbrev pub course : Rounds → RoundsPlan → (PrefixValue → ℕ → Bool) → Course
course r p touched = record { plan = plan_of r; after = plan_after r p; old = kept r; new = kept_with r p; touched = touched; changed = is_changed p }

-- the changes of all tables can be planned: no plan is open, and at most 20,000,000 cells are live; after the edit the graph has no provider cycle, and the planned ranks are its ranks, by the last plan of them; the edit of the announcements, if there is one, can be made, and who announces something after it is in the graph; each table holds entries only for its ASes and for touched ones, and is right at all others
pub record CanPlan {P V : Type 0} (meaning : P → Policy) (state_of : V → PrefixValue → ℕ → State) (r : Rounds) (w : World P V) (planned : PlannedRanks) (touched : Touched) (edit : Option SeedEdit) : Type 0 where
  pub closed : is_open r ≡ false
  pub few_cells : live_count (pool_of r) ≤ MOST_CELLS
  pub no_cycle : HasNoProviderCycle (relation w.graph.now)
  pub last : IsLastPlan planned.ranks.now planned.plan.now
  pub ranks : (a : ℕ) → IsRank (relation w.graph.now) a (rank_after planned.ranks.now planned.plan.now a)
  pub can_edit : (e : SeedEdit) → edit ≡ Some e → CanEdit (plan_of r) e
  pub announcers : (prefix : PrefixValue) (a : ℕ) → IsTrue (announces (plan_edited edit (plan_of r)) prefix a) → has w.graph.now a ≡ true
  pub entries : (round : ℕ) (prefix : PrefixValue) (b : ℕ) → 1 ≤ round → round ≤ round_count r → IsTrue (has_prefix (plan_of r) prefix) → has w.graph.now b ≡ false → touches touched prefix b ≡ false → kept r round prefix b ≡ None
  pub right : (before : ℕ) (prefix : PrefixValue) (b : ℕ) → before < round_count r → IsTrue (has_prefix (plan_of r) prefix) → has w.graph.now b ≡ true → touches touched prefix b ≡ false →
      IsRight (setting_in meaning state_of w prefix) (seeds_of (plan_of r) (suc before) prefix (kept r before prefix)) (kept r (suc before) prefix) b

-- the plan is the open one of the rounds, for the edit: with its changes in place each table is the one stable routing of its round, and it took no more steps than it may
pub record IsPlanned {P V : Type 0} (meaning : P → Policy) (state_of : V → PrefixValue → ℕ → State) (old new : Rounds) (w : World P V) (touched : Touched) (edit : Option SeedEdit) (first last : ℕ) (p : RoundsPlan) : Type 0 where
  pub «open» : IsOpenPlan new p
  pub before : cells_before p ≡ live_count (pool_of old)
  pub edited : plan_after new p ≡ plan_edited edit (plan_of old)
  pub asn : asn_edited p ≡ option_map edit_asn edit
  pub numbers : numbers_added p ≡ option_map_or edit_numbers edit 0
  pub stable : AreRounds (setting_in meaning state_of w) (plan_after new p) (round_count new) (kept_with new p)
  pub enough : AreEnoughFor (relation w.graph.now) (course new p (touches touched)) (round_count new) first last

-- the rounds are seen as they were: who announces what and who leaks, how many rounds there are, and what each AS holds
pub record SeemsSame (old new : Rounds) : Type 0 where
  pub plan : plan_of new ≡ plan_of old
  pub rounds : round_count new ≡ round_count old
  pub kept : (round : ℕ) (prefix : PrefixValue) (a : ℕ) → kept new round prefix a ≡ kept old round prefix a
