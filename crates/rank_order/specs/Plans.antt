-- Plans: what ranks become with a graph that was edited.
use Rattle.std.specs.Prelude.{◌≡◌, ℕ, Bool, true, false, Option, None, Some, is_some, unwrap_or, if◌then◌else◌, List}
use Rattle.std.specs.FinMap as map
use Rattle.net_names.specs.Numbers.{occurs}
use Rattle.as_graph.specs.Topology.{Topology, relation, has}
use Rattle.as_graph.specs.Hierarchy.{IsRank}
use Rattle.cycle_check.specs.Providers.{rank_by as rank_by_place}
use Rattle.rank_order.specs.Lists.{AreAtMost}
use Rattle.rank_order.specs.Ranks.{KeptRanks}
use Rattle.rank_order.specs.declared.plan.RankPlan.{RankPlan}

-- the AS is one of those that the plan numbers
abbrev pub is_numbered : RankPlan → ℕ → Bool
is_numbered p a = occurs a p.ases.items

-- the entry of an AS in the plan's second map, where the ranks are its first: its new rank where the plan has
-- one, none where its links changed and the plan has none, and else what it had
abbrev pub entry_after : KeptRanks → RankPlan → ℕ → Option ℕ
entry_after ranks p a = if is_numbered p a then Some (rank_by_place p.ases.items p.ranks.items a) else if occurs a p.ends.items then None else map.get ranks.by_as a

-- the rank of an AS in the plan's second map, 0 where that has none
abbrev pub rank_after : KeptRanks → RankPlan → ℕ → ℕ
rank_after ranks p a = unwrap_or (entry_after ranks p a) 0

-- the AS is in the plan's second map alone
pub record ComesBy (ranks : KeptRanks) (p : RankPlan) (a : ℕ) : Type 0 where
  pub later : is_some (entry_after ranks p a) ≡ true
  pub before : is_some (map.get ranks.by_as a) ≡ false

-- the plan is one for these ranks: they have room for the ASes that are in its second map alone
pub record IsLastPlan (ranks : KeptRanks) (p : RankPlan) : Type 0 where
  pub room : AreAtMost ranks.spare (ComesBy ranks p)

-- the plan numbers only ASes of the graph, among them those whose links changed, and gives all ASes their ranks
pub record IsPlanFor (g : Topology) (ends : List ℕ) (ranks : KeptRanks) (p : RankPlan) : Type 0 where
  pub same : p.ends.items ≡ ends
  pub inside : (a : ℕ) → is_numbered p a ≡ true → has g a ≡ true
  pub complete : (a : ℕ) → occurs a ends ≡ true → has g a ≡ true → is_numbered p a ≡ true
  pub fitting : (a : ℕ) → IsRank (relation g) a (rank_after ranks p a)
