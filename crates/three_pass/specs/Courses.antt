-- What the passes go along.
use Rattle.std.specs.Prelude.{◌≡◌, ℕ, true, ◌<◌, List, Option, length, slice_index, nat_eq}
use Rattle.std.specs.List.{IsDistinct}
use Rattle.net_names.specs.Numbers.{occurs}
use Rattle.net_names.specs.declared.routes.Rel.{Rel}
use Rattle.as_graph.specs.Topology.{Topology, relation, has, as_count}
use Rattle.as_graph.specs.Hierarchy.{IsRank}
use Rattle.rank_order.specs.Ranks.{IsRankOrder}
use Rattle.three_pass.specs.declared.course.Course.{Course}
use Rattle.three_pass.specs.declared.lists.ProviderLists.{ProviderLists}
use Rattle.three_pass.specs.Lists.{AreProviders, count_of, list_at}

-- the lists have, one for each of the ASes in their order, its providers
pub record AreAbove (relation : ℕ → ℕ → Option Rel) (ases : List ℕ) (lists : ProviderLists) : Type 0 where
  pub count : count_of lists ≡ length ases
  pub each : (k : ℕ) → k < length ases → AreProviders relation (slice_index ases k) (list_at lists k)

-- the order is one of the graph's ASes by rising rank, the providers of each are those of the graph, and all ASes are among the rows, which differ
pub record IsCourse (g : Topology) (c : Course) : Type 0 where
  pub rank : ℕ → ℕ
  pub ranks : (a : ℕ) → IsRank (relation g) a (rank a)
  pub order : IsRankOrder (has g) rank c.order.ases.items
  pub count : length c.order.ases.items ≡ as_count g
  pub complete : (a : ℕ) → has g a ≡ true → occurs a c.rows.value.ases ≡ true
  pub apart : IsDistinct nat_eq c.rows.value.ases
  pub above : AreAbove (relation g) c.order.ases.items c.above
