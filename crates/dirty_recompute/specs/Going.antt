-- What turns need and what they come to, said of the world in which they are had.
use Rattle.std.specs.Prelude.{ℕ, ◌≤◌, List}
use Rattle.net_names.specs.declared.routes.State.{State}
use Rattle.net_names.specs.Prefixes.{PrefixValue as Prefix}
use Rattle.policy_laws.specs.Policy.{Policy}
use Rattle.as_graph.specs.Topology.{has, as_count}
use Rattle.as_graph.specs.declared.build.TheConstants.{MOST_ASES}
use Rattle.path_pool.specs.declared.pool.PathPool.{PathPool}
use Rattle.route_choice.specs.declared.overlay.Overlay.{Overlay}
use Rattle.route_choice.specs.PrefixWorlds.{setting_at}
use Rattle.route_choice.specs.Routings.{routing_of, seeds_of, table_routing}
use Rattle.dirty_recompute.specs.declared.named.Named.{Named}
use Rattle.dirty_recompute.specs.declared.queue.Queue.{Queue}
use Rattle.dirty_recompute.specs.declared.ranked_world.RankedWorld.{RankedWorld}
use Rattle.dirty_recompute.specs.Exact.{IsExact}
use Rattle.dirty_recompute.specs.Named.{HasAll}
use Rattle.dirty_recompute.specs.PlannedRanks.{rank_of}
use Rattle.dirty_recompute.specs.Resources.{has_change}
use Rattle.dirty_recompute.specs.Work.{HasGoneDown, CanGoOn, GoesOn}

-- ASes can have turns: there are at most 150,000, all numbers on the seeds' paths are listed if some are, and from some first pool on it can go on
pub record CanGo {P V : Type 0} (w : RankedWorld P V) (numbers : Named) (pool : PathPool) (overlay : Overlay) : Type 0 where
  pub few : as_count w.at.graph.now ≤ MOST_ASES
  pub named : HasAll numbers (seeds_of pool w.at.seeds.now)
  pub can : (first : PathPool) × CanGoOn (has w.at.graph.now) first pool w.at.seeds.now w.at.table.now overlay

-- what could go on before the turns can go on after them
abbrev pub GoesOnIn : {P V : Type 0} → RankedWorld P V → PathPool → PathPool → Overlay → Overlay → Type 0
GoesOnIn w old new before after = GoesOn (has w.at.graph.now) old new w.at.seeds.now w.at.table.now before after

-- so many turns upwards were had, after which nobody waits upwards
abbrev pub HasGone : {P V : Type 0} → (P → Policy) → (V → Prefix → ℕ → State) → RankedWorld P V → List ℕ → PathPool → Overlay → Queue → ℕ → Type 0
HasGone meaning state_of w touched pool overlay whole turns =
    HasGoneDown (setting_at meaning state_of w.at) (rank_of w.ranks) touched pool w.at.seeds.now w.at.table.now overlay whole turns 0

-- with the changes in place the table has the one stable routing, and they are just where it had another entry
abbrev pub AreExactIn : {P V : Type 0} → (P → Policy) → (V → Prefix → ℕ → State) → RankedWorld P V → PathPool → Overlay → Type 0
AreExactIn meaning state_of w pool overlay =
    IsExact (setting_at meaning state_of w.at) (seeds_of pool w.at.seeds.now) (table_routing pool w.at.table.now) (routing_of pool w.at.table.now overlay) (has_change overlay)
