-- What contracts see of a simulation.
use Rattle.std.specs.Prelude.{◌≡◌, ℕ, List, Result, IfErr, OnErr, OnOk}
use Rattle.scenario_text.specs.declared.acts.Query.{Query}
use Rattle.sim_core.specs.Answers.{Answers, IsQueryRefusal}
use Rattle.sim_core.specs.World.{World}
use Rattle.sim_core.specs.Kept.{Kept}
use Rattle.sim_core.specs.Views.{kept as parts_kept, world_seen as parts_world}
use Rattle.sim_core.specs.declared.errors.QueryError.{QueryError}
use Rattle.sim_core.specs.declared.sim.Sim.{Sim}

-- the world of a simulation
abbrev pub world_seen : Sim → World
world_seen sim = parts_world sim.parts

-- what a simulation keeps: for each round and prefix what each AS holds, the ranks, and the ends of all traces
abbrev pub kept : Sim → Kept
kept sim = parts_kept sim.parts

-- the answer to the query was appended, or the query was refused and nothing was
pub record IsAnswered (sim : Sim) (q : Query) (old new : List ℕ) (result : Result (Unit {0}) QueryError) : Type 0 where
  pub answered : OnOk result (Answers (world_seen sim) (kept sim) q old new)
  pub refused : IfErr result (IsQueryRefusal (world_seen sim) q)
  pub err : OnErr result (new ≡ old)
