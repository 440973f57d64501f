-- Rows that have all links of a graph.
use Rattle.std.proofs.Common.{◌≡◌, ℕ, ◌≤◌, nat_eq, is_some, None, List, length, sym, ◌∙◌, ap}
use Rattle.std.proofs.lemmas.Cmp.{nat_cmp_total}
use Rattle.std.specs.Ordering.{nat_cmp}
use Rattle.std.specs.List.Sorted.{IsStrictlyIncreasing}
use Rattle.std.specs.FinMap as map
use Rattle.std.specs.FinSet as set
use Rattle.indexmap.specs.IndexMap.{get}
use Rattle.net_names.specs.Links.{LinkMap}
use Rattle.net_names.specs.Numbers.{occurs}
use Rattle.net_names.proofs.Pairs.{pairs_total, exact_pair}
use Rattle.as_graph.specs.Topology.{unmarked}
use Rattle.as_graph.specs.Graphs.{Rows, topology_of, IsBuilt, IsKept}
use Rattle.as_graph.proofs.RowAses.{contains-marked}

from_entries-entries : (links : LinkMap) → map.from_entries (map.entries links) ≡ links
from_entries-entries links = map.same_map pairs_total exact_pair _ _ (λ q. map.get-from_entries pairs_total (map.entries links) q ∙ sym (map.get-entries links q))

-- the rows of all links make the graph with these links and no marks
pub topology_of-built : (m : Rows) (links : LinkMap) → IsBuilt m (map.entries links) → topology_of m ≡ unmarked links
topology_of-built m links built =
    let no_marks : (topology_of m).marked ≡ set.empty = set.same_set nat_cmp_total set.nat_cmp-IsAntisymmetric _ _ (λ q. contains-marked m built.graph.unique q ∙ built.unmarked q ∙ sym (set.contains-empty nat_cmp q)) in
    λ i. record { links = (built.links ∙ from_entries-entries links) i; marked = no_marks i; room = None }

-- and with the order of their numbers they are kept
pub kept-built : (m : Rows) (links : LinkMap) (order : List ℕ) (count : ℕ) → IsBuilt m (map.entries links) → ((a : ℕ) → occurs a order ≡ is_some (get nat_eq m a)) → IsStrictlyIncreasing order →
    length order ≤ 150000 → count ≡ map.len links → count ≤ 1500000 → IsKept m order count
kept-built m links order count built listed rising few counted few_links = record {
  graph = built.graph;
  listed = λ a. listed a ∙ built.needed a;
  rising = rising;
  few_ases = few;
  counted = ap map.len (built.links ∙ from_entries-entries links) ∙ sym counted;
  few_links = few_links;
}
