-- What the rows, the order and the count of a graph tell of its topology.
use Rattle.std.proofs.Common.{◌≡◌, ◌≢◌, ℕ, ◌<◌, ◌≤◌, arith, slice_index_or, slice_index, false, nat_eq, Option, Some, None, List, length, refl, sym, ◌∙◌, ap}
use Rattle.std.specs.List.{IsDistinct}
use Rattle.std.specs.Option.{option_map_or}
use Rattle.std.specs.FinMap as map
use Rattle.indexmap.specs.IndexMap.{get}
use Rattle.net_names.specs.declared.routes.Rel.{Rel}
use Rattle.net_names.specs.Numbers.{occurs}
use Rattle.as_graph.specs.declared.neighbour.Neighbour.{Neighbour}
use Rattle.as_graph.specs.declared.row.Row.{Row}
use Rattle.as_graph.specs.Topology.{Topology, relation, has, as_count}
use Rattle.as_graph.specs.Neighbours.{AreNeighbours}
use Rattle.as_graph.specs.Following.{IsAbove, IsNext}
use Rattle.as_graph.specs.Order.{IsStart}
use Rattle.as_graph.specs.Rows.{rel_in, IsRising}
use Rattle.as_graph.specs.Graphs.{Rows, rel_of, is_needed, graph_of, IsKept}
use Rattle.as_graph.proofs.RowLemmas.{rising_asns, found_each, found_occurs}
use Rattle.as_graph.proofs.RowLinks.{items_at, relation-topology_of}
use Rattle.as_graph.proofs.RowAses.{has-topology_of, rising_distinct, as_count-listed}
use Rattle.as_graph.proofs.OrderLemmas.{occurs_start, above_start, least_start, none_above}

-- a row's neighbours are those that the links say
row_neighbours : (w : ℕ → ℕ → Option Rel) (a : ℕ) (ns : List Neighbour) → IsRising ns → ((b : ℕ) → w a b ≡ rel_in ns b) → AreNeighbours w a ns
row_neighbours w a ns rising is = record {
  each = λ k d h. is (slice_index_or ns k d).asn ∙ found_each ns rising k d h;
  complete = λ b r h. found_occurs ns b r (sym (is b) ∙ h);
  rising = rising_asns ns rising;
}

pub items_rise : (o : Option Row) → IsRising (items_at o)
items_rise None i j lt h = absurd (omega arith)
items_rise (Some r) i j lt h = r.rising i j lt h

module _ (m : Rows) (order : List ℕ) (count : ℕ) (kept : IsKept m order count) (g : Topology) (room : Option (ℕ × ℕ)) (seen : graph_of m room ≡ g) where
  -- by the row of a
  pub relation_read : (a b : ℕ) (o : Option Row) → o ≡ get nat_eq m a → relation g a b ≡ rel_in (items_at o) b
  relation_read a b o e = sym (ap (λ h. relation h a b) seen) ∙ relation-topology_of m kept.graph a b ∙ sym (ap (λ t. rel_in (items_at t) b) e)

  pub rel_read : (a b : ℕ) → relation g a b ≡ rel_of m a b
  rel_read a b = relation_read a b (get nat_eq m a) refl

  pub linked_rows : (a b : ℕ) → relation g a b ≢ None → rel_of m a b ≢ None
  linked_rows a b some none = some (rel_read a b ∙ none)

  pub neighbours_read : (a : ℕ) (o : Option Row) → o ≡ get nat_eq m a → AreNeighbours (relation g) a (items_at o)
  neighbours_read a o e = row_neighbours (relation g) a (items_at o) (items_rise o) (λ b. relation_read a b o e)

  pub has_read : (a : ℕ) (o : Option Row) → o ≡ get nat_eq m a → option_map_or is_needed o false ≡ has g a
  has_read a o e = ap (λ t. option_map_or is_needed t false) e ∙ sym (has-topology_of m kept.graph a) ∙ ap (λ h. has h a) seen

  -- by the order
  pub listed_read : (a : ℕ) → occurs a order ≡ has g a
  listed_read a = kept.listed a ∙ sym (has-topology_of m kept.graph a) ∙ ap (λ h. has h a) seen

  pub apart_read : IsDistinct nat_eq order
  apart_read = rising_distinct order kept.rising

  pub counted_read : length order ≡ as_count g
  counted_read = sym (as_count-listed g order apart_read listed_read)

  pub next_read : (bound : Option ℕ) (at : ℕ) → IsStart order bound at → at < length order → IsNext g bound (slice_index order at)
  next_read bound at start h = record {
    among = sym (listed_read _) ∙ occurs_start order kept.rising bound at start h;
    above = above_start order kept.rising bound at start h;
    least = λ k there above. least_start order kept.rising bound at start h k (listed_read k ∙ there) above;
  }

  pub none_read : (bound : Option ℕ) (at : ℕ) → IsStart order bound at → length order ≤ at → (k : ℕ) → IsAbove bound k → has g k ≡ false
  none_read bound at start h k above = sym (listed_read k) ∙ none_above order kept.rising bound at start h k above

  -- by the count
  pub links_read : count ≡ map.len g.links
  links_read = sym kept.counted ∙ ap (λ (h : Topology). map.len h.links) seen
