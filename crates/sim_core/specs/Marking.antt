-- Graphs with other marks.
use Rattle.std.specs.Prelude.{◌≡◌, ◌<◌, ◌≤◌, ℕ, Bool, List, fold, Result, Ok, Err, if◌then◌else◌}
use Rattle.std.specs.FinSet as set
use Rattle.net_names.specs.Links.{LinkMap}
use Rattle.as_graph.specs.Topology.{Topology, as_count, unmarked, with_mark}
use Rattle.sim_core.specs.declared.errors.LoadError.{LoadError}
use Rattle.sim_core.specs.declared.errors.LoadError.TheVariants as load_error
use Rattle.as_graph.specs.declared.build.TheConstants.{MOST_ASES}

-- the graph with a mark on each of these ASes
abbrev pub marked : Topology → List ℕ → Topology
marked g names = fold with_mark g names

-- the graph in which the AS is marked or not, and all else as before
abbrev pub with_mark_if : Topology → ℕ → Bool → Topology
with_mark_if g a is_marked = record g { marked = if is_marked then set.insert g.marked a else set.remove g.marked a }

-- why the ASes get no marks: memory is wanting, or there would be more than 150,000 ASes
abbrev pub IsMarksRefusal : Topology → List ℕ → LoadError → Type 0
IsMarksRefusal g names load_error.Memory = Unit {0}
IsMarksRefusal g names load_error.TooManyAses = MOST_ASES < as_count (marked g names)
IsMarksRefusal g names (load_error.ProviderCycle cycle) = ⊥

-- the graph is made, and has at most 150,000 ASes; or it would have more; or memory ran out
abbrev pub MakesGraph : LinkMap → List ℕ → Result Topology LoadError → Type 0
MakesGraph links names (Ok graph) = (graph ≡ marked (unmarked links) names) × (as_count graph ≤ MOST_ASES)
MakesGraph links names (Err e) = IsMarksRefusal (unmarked links) names e
