-- What jobs are answered over (private clauses cite these words).
use Rattle.std.specs.Prelude.{◌≡◌, ℕ}
use Rattle.as_graph.specs.Hierarchy.{IsRank}
use Rattle.as_graph.specs.Topology.{relation}
use Rattle.rank_order.specs.Ranks.{KeptRanks, rank_at}
use Rattle.sim_core.specs.Bases.{base_world}
use Rattle.sim_core.specs.Kept.{IsKept}
use Rattle.sim_core.specs.Sims.{kept, world_seen}
use Rattle.sim_core.specs.World.{World, topology}
use Rattle.task_reading.specs.Jobs.{Job, needs_of}
use Rattle.task_reading.specs.declared.jobs.Needs.TheVariants as needs
use Rattle.asprop_run.specs.declared.loaded.Loaded.{Loaded}
use Rattle.asprop_run.specs.declared.loaded.Loaded.TheVariants.{Whole, Bare, Ranked}

-- the world that is loaded
abbrev pub loaded_world : Loaded → World
loaded_world (Whole sim) = world_seen sim
loaded_world (Bare base) = base_world base
loaded_world (Ranked base ranks) = base_world base

-- the ranks are those of the world's ASes
abbrev pub AreRanks : World → KeptRanks → Type 0
AreRanks w ranks = (a : ℕ) → IsRank (relation (topology w)) a (rank_at ranks a)

-- the ranks are all that is needed beside the world for the job
abbrev pub ServesSweep : World → KeptRanks → Job → Type 0
ServesSweep w ranks job = AreRanks w ranks × (needs_of job ≡ needs.Ranks)

-- what is loaded is all that an answer to the job is made from
abbrev pub Serves : Loaded → Job → Type 0
Serves (Whole sim) job = IsKept (world_seen sim) (kept sim) × (needs_of job ≡ needs.Kept)
Serves (Bare base) job = needs_of job ≡ needs.World
Serves (Ranked base ranks) job = ServesSweep (base_world base) ranks job

-- the answer to the job is made whole, and may be held back
abbrev pub IsHeld : Job → Type 0
IsHeld job = needs_of job ≡ needs.Ranks → ⊥
