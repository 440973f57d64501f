-- Where the ASes of a graph send, and no route of others.
use Rattle.std.specs.Prelude.{◌≡◌, ℕ, false, List, nat_eq}
use Rattle.std.specs.List.{list_any}
use Rattle.route_choice.specs.RoundTables.{round_routing}
use Rattle.data_trace.specs.declared.kinds.Hop.{Hop}
use Rattle.data_trace.specs.declared.places.PlaceHop.{PlaceHop}
use Rattle.data_trace.specs.declared.source.Source.{Source}
use Rattle.data_trace.specs.Hops.{next_hop}
use Rattle.data_trace.specs.Traces.{IsIn}
use Rattle.data_trace.specs.Marks.{hop_at}
use Rattle.data_trace.specs.Columns.{fresh, name_at, named}

-- where an AS sends to the address, if it is an AS of the graph
abbrev pub sends : Source → ℕ → Hop
sends s a = fresh s.graph.now (next_hop s.plan.now (round_routing s.pool.now s.tables.now) s.addr) a

-- the place has the next hop of its AS
abbrev pub HasHop : Source → List ℕ → List PlaceHop → ℕ → Type 0
HasHop s ases hops x = named ases (hop_at hops x) ≡ sends s (name_at ases x)

-- places came to the queue, next hops changed at places of the queue alone, and none that was right became wrong
pub record HopsChange (s : Source) (ases : List ℕ) (old new : List PlaceHop) (queue queue' : List ℕ) : Type 0 where
  pub more : (x : ℕ) → IsIn x queue → IsIn x queue'
  pub others : (x : ℕ) → list_any (nat_eq x) queue' ≡ false → hop_at new x ≡ hop_at old x
  pub right : (x : ℕ) → HasHop s ases old x → HasHop s ases new x
