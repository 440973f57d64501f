-- What a watch must have kept before it is updated.
use Rattle.std.specs.Prelude.{◌≡◌, ◌↔◌, ℕ, true, false, IsTrue, List, map}
use Rattle.net_names.specs.Numbers.{occurs}
use Rattle.as_graph.specs.Topology.{Topology, relation, has}
use Rattle.data_trace.specs.declared.kinds.Hop.{Hop}
use Rattle.data_trace.specs.Watches.{Row, IsRowOf, IsStub}

-- the kept next hops are these at every AS of the graph that is in neither list
abbrev pub KeepsHops : Topology → (ℕ → Hop) → List ℕ → List ℕ → List Row → Type 0
KeepsHops g next changed regrouped rows = (a : ℕ) (r : Row) → has g a ≡ true → occurs a changed ≡ false → occurs a regrouped ≡ false → IsRowOf rows a r → r.next ≡ next a

-- at every AS that is not in the list, the kept presence, stub flag and policy's number are those of this graph and these policies
pub record KeepsGroups (g : Topology) (label : ℕ → ℕ) (regrouped : List ℕ) (rows : List Row) : Type 0 where
  pub presence : (a : ℕ) → occurs a regrouped ≡ false → occurs a (map (λ r. r.asn) rows) ≡ has g a
  pub stub : (a : ℕ) (r : Row) → occurs a regrouped ≡ false → IsRowOf rows a r → IsTrue r.stub ↔ IsStub (relation g) a
  pub group : (a : ℕ) (r : Row) → occurs a regrouped ≡ false → IsRowOf rows a r → r.label ≡ label a
