-- What a step of an AS leaves.
use Rattle.std.specs.Prelude.{◌≡◌, ◌≢◌, ◌↔◌, ◌<◌, ℕ, Bool, false, suc, IsTrue, IsSome}
use Rattle.net_names.specs.declared.routes.State.{State}
use Rattle.net_names.specs.Prefixes.{PrefixValue as Prefix}
use Rattle.policy_laws.specs.Policy.{Policy}
use Rattle.path_pool.specs.declared.pool.PathPool.{PathPool}
use Rattle.path_pool.specs.Pool.{live_count}
use Rattle.stability_laws.specs.Offers.{Setting}
use Rattle.route_choice.specs.declared.choice.Part.{Part}
use Rattle.route_choice.specs.declared.table.Table.{Table}
use Rattle.route_choice.specs.declared.overlay.Overlay.{Overlay}
use Rattle.route_choice.specs.declared.prefix_world.PrefixWorld.{PrefixWorld}
use Rattle.route_choice.specs.declared.seeds.SeedIds.{SeedIds}
use Rattle.route_choice.specs.declared.turn.Turn.{Turn}
use Rattle.route_choice.specs.Tables.{change_at}
use Rattle.route_choice.specs.PrefixWorlds.{setting_at, CanStepAt}
use Rattle.route_choice.specs.Routings.{routing_of, seeds_of}
use Rattle.route_choice.specs.Choices.{IsStepOf}
use Rattle.route_choice.specs.Resources.{AreSeedsLive, Spends, GivesUpNothing, Keeps}

-- The AS took its seed, its best offer of the part, or nothing. The answer is whether it holds another entry than before:
-- where it does, the overlay has a change at it, and else all is as before. What was live stays live where the AS gives
-- nothing up.
pub record IsVisit (part : Part) (w : Setting) (seeds : SeedIds) (table : Table) (pool pool' : PathPool) (overlay overlay' : Overlay) (a : ℕ) (answer : Bool) : Type 0 where
  pub step : IsStepOf part w (seeds_of pool seeds) (routing_of pool table overlay) a (routing_of pool' table overlay')
  pub changed : IsTrue answer ↔ (routing_of pool' table overlay' a ≢ routing_of pool table overlay a)
  pub unchanged : answer ≡ false → (pool' ≡ pool) × (overlay' ≡ overlay)
  pub put : IsTrue answer → IsSome (change_at overlay' a)
  pub spent : Spends pool pool' overlay overlay' a
  pub kept : GivesUpNothing overlay (routing_of pool table overlay) (routing_of pool' table overlay') a → Keeps pool pool' seeds

-- The same in the world at one prefix, for the AS and the part of a turn.
abbrev pub IsVisitAt : {P V : Type 0} → (P → Policy) → (V → Prefix → ℕ → State) → PrefixWorld P V → PathPool → PathPool → Overlay → Overlay → Turn → Bool → Type 0
IsVisitAt meaning state_of w pool pool' overlay overlay' turn answer =
    IsVisit turn.part (setting_at meaning state_of w) w.seeds.now w.table.now pool pool' overlay overlay' turn.asn answer

-- A cell more is live only where the AS holds an entry afterwards.
abbrev pub NewCellIsHeld : {P V : Type 0} → PrefixWorld P V → PathPool → PathPool → Overlay → ℕ → Type 0
NewCellIsHeld w pool pool' overlay' a = live_count pool < live_count pool' → IsSome (routing_of pool' w.table.now overlay' a)

-- Where one step more than n could be made, and the seeds' paths are live still, n more can be made.
abbrev pub LeavesSteps : {P V : Type 0} → PrefixWorld P V → PathPool → PathPool → Overlay → Overlay → Type 0
LeavesSteps w pool pool' overlay overlay' = (n : ℕ) → CanStepAt w pool overlay (suc n) → AreSeedsLive pool' w.seeds.now → CanStepAt w pool' overlay' n
