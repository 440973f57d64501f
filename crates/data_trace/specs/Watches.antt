-- What a watch keeps of each AS, and the counts by group and end.
use Rattle.std.specs.Prelude.{◌≡◌, ◌≢◌, ◌↔◌, ℕ, ◌==◌, ◌&&◌, Bool, true, false, IsTrue, Option, Some, List, map, count_by, slice_get, nat_eq}
use Rattle.std.specs.List.{IsDistinct}
use Rattle.net_names.specs.declared.routes.Rel.{Rel}
use Rattle.net_names.specs.declared.routes.Rel.TheVariants.{Customer}
use Rattle.net_names.specs.Numbers.{occurs}
use Rattle.net_names.specs.Prefixes.{PrefixValue}
use Rattle.as_graph.specs.Topology.{Topology, relation, has}
use Rattle.stability_laws.specs.declared.entry.Entry.{Entry}
use Rattle.stability_laws.specs.Plans.{Plan, announces}
use Rattle.data_trace.specs.declared.kinds.Hop.{Hop}
use Rattle.data_trace.specs.declared.kinds.End.{End}
use Rattle.data_trace.specs.declared.kinds.End.TheVariants as the_end
use Rattle.data_trace.specs.declared.kinds.Which.{Which}
use Rattle.data_trace.specs.declared.kinds.Which.TheVariants.{All, Stub, Label}
use Rattle.data_trace.specs.Hops.{second_of}
use Rattle.data_trace.specs.Traces.{IsTrace}

-- what a watch keeps of an AS: its next hop, the end of its trace, whether it has no customers, and the number of its policy's group
pub record Row : Type 0 where
  pub asn : ℕ
  pub next : Hop
  pub end : End
  pub stub : Bool
  pub label : ℕ

-- an AS without customers
abbrev pub IsStub : (ℕ → ℕ → Option Rel) → ℕ → Type 0
IsStub relation a = (b : ℕ) → relation a b ≢ Some Customer

-- the row is right: it has the AS's next hop, the end of its trace, whether it is a stub, and its policy's group
pub record IsRow (relation : ℕ → ℕ → Option Rel) (next : ℕ → Hop) (label : ℕ → ℕ) (r : Row) : Type 0 where
  pub next_hop : r.next ≡ next r.asn
  pub trace : (xs : List ℕ) × IsTrace next r.asn xs r.end
  pub stub : IsTrue r.stub ↔ ((b : ℕ) → relation r.asn b ≢ Some Customer)
  pub group : r.label ≡ label r.asn

-- the rows are those of all ASes of the graph: each has one, and each is right
pub record AreRows (g : Topology) (next : ℕ → Hop) (label : ℕ → ℕ) (rows : List Row) : Type 0 where
  pub listed : (a : ℕ) → occurs a (map (λ r. r.asn) rows) ≡ has g a
  pub apart : IsDistinct nat_eq (map (λ r. r.asn) rows)
  pub right : (k : ℕ) (r : Row) → slice_get rows k ≡ Some r → IsRow (relation g) next label r

-- the row is that of the AS
pub record IsRowOf (rows : List Row) (a : ℕ) (r : Row) : Type 0 where
  pub place : ℕ
  pub there : slice_get rows place ≡ Some r
  pub asn : r.asn ≡ a

-- the two ends are the same
abbrev pub is_end : End → End → Bool
is_end (the_end.At a) (the_end.At b) = a == b
is_end the_end.NoRoute the_end.NoRoute = true
is_end the_end.Loop the_end.Loop = true
is_end e f = false

-- an AS, of which it is told whether it is a stub and which number its policy has, is one of the group: of all ASes, of those without customers, or of those with this number
abbrev pub in_group : Which → Bool → ℕ → Bool
in_group All stub label = true
in_group Stub stub label = stub
in_group (Label l) stub label = label == l

-- how many ASes the group has
abbrev pub size_of : List Row → Which → ℕ
size_of rows which = count_by (λ r. in_group which r.stub r.label) rows

-- how many ASes of the group have a trace with this end
abbrev pub count_of : List Row → Which → End → ℕ
count_of rows which e = count_by (λ r. in_group which r.stub r.label && is_end r.end e) rows

-- where an AS does not announce the prefix, the second AS of its entry's path is an AS of the graph
abbrev pub StaysInside : Topology → Plan → (PrefixValue → ℕ → Option Entry) → Type 0
StaysInside g plan held = (p : PrefixValue) (a b : ℕ) → announces plan p a ≡ false → second_of (held p a) ≡ Some b → has g b ≡ true
