-- What it leaves when an AS is given the entry that a choice names.
use Rattle.std.specs.Prelude.{◌≡◌, ◌≢◌, ◌↔◌, ◌<◌, ℕ, Bool, false, suc, IsTrue, IsSome}
use Rattle.policy_laws.specs.Policy.{Policy}
use Rattle.path_pool.specs.declared.pool.PathPool.{PathPool}
use Rattle.path_pool.specs.Pool.{live_count}
use Rattle.route_choice.specs.declared.choice.Choice.{Choice}
use Rattle.route_choice.specs.declared.overlay.Overlay.{Overlay}
use Rattle.route_choice.specs.declared.prefix_world.PrefixWorld.{PrefixWorld}
use Rattle.route_choice.specs.Tables.{change_at}
use Rattle.route_choice.specs.Routings.{routing_of}
use Rattle.route_choice.specs.PrefixWorlds.{named_at}
use Rattle.route_choice.specs.Resources.{AreSeedsLive, CanChange, GivesUpNothing, IsVia, Keeps, Spends}

-- The AS holds what the choice names, and all others what they held. The answer is whether it holds another entry than before:
-- where it does, the overlay has a change at it, and else all is as before. A cell more is live only where the choice is an
-- offer, and where one change more than n could be made and the seeds' paths are live still, n can be made. What was live
-- stays live where the AS gives nothing up.
pub record IsSettled {P V : Type 0} (meaning : P → Policy) (w : PrefixWorld P V) (pool pool' : PathPool) (overlay overlay' : Overlay) (a : ℕ) (choice : Choice) (answer : Bool) : Type 0 where
  pub named : routing_of pool' w.table.now overlay' a ≡ named_at meaning w pool overlay a choice
  pub others : (n : ℕ) → n ≢ a → routing_of pool' w.table.now overlay' n ≡ routing_of pool w.table.now overlay n
  pub changed : IsTrue answer ↔ (routing_of pool' w.table.now overlay' a ≢ routing_of pool w.table.now overlay a)
  pub unchanged : answer ≡ false → (pool' ≡ pool) × (overlay' ≡ overlay)
  pub put : IsTrue answer → IsSome (change_at overlay' a)
  pub spent : Spends pool pool' overlay overlay' a
  pub live : live_count pool < live_count pool' → IsVia choice
  pub next : (n : ℕ) → CanChange pool w.seeds.now w.table.now overlay (suc n) → AreSeedsLive pool' w.seeds.now → CanChange pool' w.seeds.now w.table.now overlay' n
  pub kept : GivesUpNothing overlay (routing_of pool w.table.now overlay) (routing_of pool' w.table.now overlay') a → Keeps pool pool' w.seeds.now
