-- The routings of all rounds of a world.
use Rattle.std.specs.Prelude.{◌≡◌, ◌<◌, ℕ, suc, IsTrue}
use Rattle.net_names.specs.Prefixes.{PrefixValue}
use Rattle.stability_laws.specs.Plans.{has_prefix}
use Rattle.stability_laws.specs.Rounds.{AreRounds}
pub use Rattle.leak_round.specs.Changes.{Family}
use Rattle.sim_core.specs.World.{World, setting_of}

-- each round's routing of each prefix is stable, with the seeds that follow from the round before, and no other routings of the world's rounds and prefixes are (Gao and Rexford 2001; RFC 7908, section 3)
pub record IsOneFamily (w : World) (g : Family) : Type 0 where
  pub is : AreRounds (setting_of w) w.plan w.rounds g
  pub only : (other : Family) → AreRounds (setting_of w) w.plan w.rounds other → (n : ℕ) (p : PrefixValue) → n < w.rounds → IsTrue (has_prefix w.plan p) → (a : ℕ) → other (suc n) p a ≡ g (suc n) p a
