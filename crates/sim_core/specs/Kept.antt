-- What a simulation keeps beside its world.
use Rattle.std.specs.Prelude.{ℕ, IsTrue, List}
use Rattle.std.specs.FinSet as set
use Rattle.net_names.specs.Addresses.{AddrValue}
use Rattle.as_graph.specs.Hierarchy.{IsRank}
use Rattle.as_graph.specs.Topology.{has, relation}
use Rattle.data_trace.specs.Hops.{next_hop}
use Rattle.data_trace.specs.Traces.{IsTrace}
use Rattle.data_trace.specs.declared.kinds.End.{End}
use Rattle.sim_core.specs.World.{World, has_round, topology}
use Rattle.sim_core.specs.Families.{Family, IsOneFamily}

-- for each round and prefix what each AS holds, for each AS a rank, and for each round and address how the trace of each AS ends
pub record Kept : Type 0 where
  pub routings : Family
  pub ranks : ℕ → ℕ
  pub ends : ℕ → AddrValue → ℕ → End

-- the routings are the one and only stable ones of the world; the rank of each AS is how many links lead from a provider to a customer on the longest way down from it; and for each round, watched address and AS of the world, its trace ends so (Gao and Rexford 2001)
pub record IsKept (w : World) (k : Kept) : Type 0 where
  pub routings : IsOneFamily w k.routings
  pub ranks : (a : ℕ) → IsRank (relation (topology w)) a (k.ranks a)
  pub ends : (round : ℕ) (addr : AddrValue) (a : ℕ) → IsTrue (has_round w round) → IsTrue (set.contains w.watched addr) → IsTrue (has (topology w) a) → (walk : List ℕ) × IsTrace (next_hop w.plan (k.routings round) addr) a walk (k.ends round addr a)
