-- A world: what a simulation rests on.
use Rattle.std.specs.Prelude.{ℕ, Bool, ◌&&◌, None, nat_le, List, map, ◌++◌, unwrap_or}
use Rattle.std.specs.Ordering.{nat_cmp}
use Rattle.std.specs.FinMap as fin
use Rattle.std.specs.FinSet as set
use Rattle.net_names.specs.Addresses.{addr_cmp}
use Rattle.net_names.specs.Links.{LinkMap}
use Rattle.net_names.specs.Prefixes.{PrefixValue}
use Rattle.as_graph.specs.Topology.{Topology, relation, has}
use Rattle.as_graph.specs.Hierarchy.{IsProviderCycle}
use Rattle.policy_kinds.specs.Kinds.{kind_policy}
use Rattle.policy_kinds.specs.declared.kind.Kind.{Kind}
use Rattle.policy_kinds.specs.declared.kind.Kind.TheVariants.{Plain}
use Rattle.roa_table.specs.Sets.{Payloads}
use Rattle.origin_validation.specs.Judging.{state_of}
use Rattle.stability_laws.specs.Offers.{Setting}
use Rattle.stability_laws.specs.Plans.{Plan, announcers_of}

-- the links between ASes, the validated payloads, the policies of the ASes that have another than the plain one, what is announced and leaked, how many rounds there are, and which addresses are watched
pub record World : Type 0 where
  pub links : LinkMap
  pub payloads : Payloads
  pub kinds : fin.FinMap nat_cmp Kind
  pub plan : Plan
  pub rounds : ℕ
  pub watched : set.FinSet addr_cmp

-- the ASes that an announcement, a leak in some round or a policy names, some twice (RFC 7908, section 3)
abbrev pub named : Plan → fin.FinMap nat_cmp Kind → List ℕ
named plan kinds = announcers_of plan ++ (map (λ e. e.1) (fin.keys plan.leakers) ++ fin.keys kinds)

-- the graph of these links and these marks; it has no room
abbrev pub graph_of : LinkMap → set.FinSet nat_cmp → Topology
graph_of links marks = record { links = links; marked = marks; room = None }

-- the graph of a world: its links, and the ASes that an announcement, a leak or a policy names, which are there without a link too; it has no room
abbrev pub topology : World → Topology
topology w = record { links = w.links; room = None; marked = set.from_list (announcers_of w.plan ++ (map (λ e. e.1) (fin.keys w.plan.leakers) ++ fin.keys w.kinds)) }

-- rounds are counted from 1
abbrev pub has_round : World → ℕ → Bool
has_round w round = nat_le 1 round && nat_le round w.rounds

-- the policy of an AS; an AS that none is named for has the plain one
abbrev pub kind_at : World → ℕ → Kind
kind_at w a = unwrap_or (fin.get w.kinds a) Plain

-- what the routing of a prefix rests on: the ASes and their links, their policies, and each origin's state by the payloads (RFC 6811, section 2)
abbrev pub setting_of : World → PrefixValue → Setting
setting_of w prefix = record { has = has (topology w); relation = relation (topology w); policy = λ a. kind_policy (kind_at w a); state = state_of w.payloads prefix }

-- there is a provider cycle among the links (Gao and Rexford 2001, the hierarchy assumption)
abbrev pub HasCycle : World → Type 0
HasCycle w = (cycle : List ℕ) × IsProviderCycle (relation (topology w)) cycle
