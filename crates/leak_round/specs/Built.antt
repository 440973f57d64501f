-- Rounds that are built of a plan of seeds.
use Rattle.std.specs.Prelude.{◌≡◌, ℕ, suc, ◌-◌, ◌<◌, ◌≤◌, false, IsTrue, Option}
use Rattle.net_names.specs.Prefixes.{PrefixValue}
use Rattle.path_pool.specs.Pool.{live_count}
use Rattle.stability_laws.specs.declared.entry.Entry.{Entry}
use Rattle.stability_laws.specs.Offers.{Setting}
use Rattle.stability_laws.specs.Plans.{Plan, has_prefix}
use Rattle.stability_laws.specs.Rounds.{AreRounds}
use Rattle.leak_round.specs.declared.rounds.Rounds.{Rounds}
use Rattle.leak_round.specs.declared.rounds.TheConstants.{MOST_CELLS}
use Rattle.leak_round.specs.Entries.{HasEntries, of_rounds}
use Rattle.leak_round.specs.Limits.{numbers_of}
use Rattle.leak_round.specs.Rounds.{is_open, kept, plan_of, pool_of, round_count}

-- these are the rounds of the plan in a world, so many, and no plan of changes is open: each table is the one stable routing of its round, no others are, and no more cells are live than all tables have entries and the announced paths have numbers, which are at most 20,000,000
pub record AreBuilt (world : PrefixValue → Setting) (plan_is : Plan) (rounds : ℕ) (r : Rounds) : Type 0 where
  pub closed : is_open r ≡ false
  pub plan : plan_of r ≡ plan_is
  pub count : round_count r ≡ rounds
  pub stable : AreRounds world plan_is rounds (kept r)
  pub only : (other : ℕ → PrefixValue → ℕ → Option Entry) → AreRounds world plan_is rounds other → (before : ℕ) (prefix : PrefixValue) → before < rounds → IsTrue (has_prefix plan_is prefix) → (a : ℕ) → other (suc before) prefix a ≡ kept r (suc before) prefix a
  pub cells : HasEntries (of_rounds (kept r)) (live_count (pool_of r) - numbers_of plan_is)
  pub few : live_count (pool_of r) ≤ MOST_CELLS
