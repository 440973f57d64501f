-- Why a world is not loaded.
use Rattle.std.specs.Prelude.{ℕ, ◌<◌, ◌≤◌, Option}
use Rattle.as_graph.specs.Topology.{as_count, relation}
use Rattle.cycle_check.specs.Cycles.{IsCycleFromLowest}
use Rattle.net_names.specs.declared.routes.Rel.{Rel}
use Rattle.sim_core.specs.World.{World, topology}
use Rattle.sim_core.specs.declared.errors.LoadError.{LoadError}
use Rattle.sim_core.specs.declared.errors.LoadError.TheVariants as load_error
use Rattle.as_graph.specs.declared.build.TheConstants.{MOST_ASES}

-- memory is wanting; or the world has more than 150,000 ASes; or it has no more, and its links have this provider cycle, told from its lowest number on
abbrev pub IsLoadRefusal : World → LoadError → Type 0
IsLoadRefusal w load_error.Memory = Unit {0}
IsLoadRefusal w load_error.TooManyAses = MOST_ASES < as_count (topology w)
IsLoadRefusal w (load_error.ProviderCycle cycle) = (as_count (topology w) ≤ MOST_ASES) × IsCycleFromLowest (relation (topology w)) cycle

-- memory is wanting; or the links have this provider cycle, told from its lowest number on
abbrev pub IsCycleRefusal : (ℕ → ℕ → Option Rel) → LoadError → Type 0
IsCycleRefusal relation load_error.Memory = Unit {0}
IsCycleRefusal relation load_error.TooManyAses = ⊥
IsCycleRefusal relation (load_error.ProviderCycle cycle) = IsCycleFromLowest relation cycle
