-- What no trial of a line changes.
use Rattle.std.specs.Prelude.{◌≡◌, ◌≤◌, ℕ, Bool, true, ◌||◌, ◌&&◌, not, List, map, nat_eq}
use Rattle.std.specs.List.{IsDistinct}
use Rattle.std.specs.FinMap as fin
use Rattle.net_names.specs.Addresses.{AddrValue}
use Rattle.net_names.specs.Coverage.{holds}
use Rattle.net_names.specs.Numbers.{occurs}
use Rattle.net_names.specs.Prefixes.{PrefixValue}
use Rattle.as_graph.specs.Hierarchy.{HasNoProviderCycle, IsRank}
use Rattle.as_graph.specs.Topology.{Topology, has, relation, unmarked}
use Rattle.policy_kinds.specs.Kinds.{label}
use Rattle.rank_order.specs.Plans.{IsLastPlan, rank_after}
use Rattle.rank_order.specs.Ranks.{rank_at}
use Rattle.three_pass.specs.Courses.{IsCourse}
use Rattle.stability_laws.specs.Plans.{Plan, announced_path, announcers_of, announces, has_prefix, leaks_in}
use Rattle.leak_round.specs.Limits.{IsWithinLimits}
use Rattle.leak_round.specs.declared.limits.TheConstants.{MOST_ROUNDS}
use Rattle.data_trace.specs.Indexes.{IsIndexOf}
use Rattle.sim_core.specs.Bases.{base_world}
use Rattle.sim_core.specs.Lent.{IsGraphOf}
use Rattle.sim_core.specs.World.{World, kind_at}
use Rattle.trial_world.specs.declared.fixed.Fixed.{Fixed}

-- one plan has no other announcements than another, and they are of prefixes that hold the address
pub record IsPart (addr : AddrValue) (whole part : Plan) : Type 0 where
  pub announced : (p : PrefixValue) (a : ℕ) → announces part p a ≡ true → announced_path part p a ≡ announced_path whole p a
  pub known : (p : PrefixValue) → has_prefix part p ≡ true → (holds p addr ≡ true) × (has_prefix whole p ≡ true)

-- a part that has grown by announcements of a prefix is a part still, for each address that the prefix holds, and has all that it had
pub record IsGrown (whole : Plan) (prefix : PrefixValue) (old new : Plan) : Type 0 where
  pub part : (addr : AddrValue) → holds prefix addr ≡ true → IsPart addr whole old → IsPart addr whole new
  pub more : (p : PrefixValue) (a : ℕ) → announces old p a ≡ true → announces new p a ≡ true

-- the plan has of the whole one the announcements of the prefixes that hold the address, and who leaks in the rounds up to the last
pub record IsPlanFor (addr : AddrValue) (last : ℕ) (whole part : Plan) : Type 0 where
  pub is_part : IsPart addr whole part
  pub announced : (p : PrefixValue) (a : ℕ) → holds p addr ≡ true → announced_path part p a ≡ announced_path whole p a
  pub leaks : (round a : ℕ) → 2 ≤ round → round ≤ last → leaks_in part round a ≡ leaks_in whole round a

-- an announcement or a leak names the AS
abbrev pub is_named : Plan → ℕ → Bool
is_named plan a = occurs a (announcers_of plan) || occurs a (map (λ x. x.1) (fin.keys plan.leakers))

-- neither a link nor an announcement or a leak names the AS
abbrev pub is_lone : Topology → Plan → ℕ → Bool
is_lone g plan a = not (has (unmarked g.links) a) && not (is_named plan a)

-- these are all lone ASes of the graph, each once
pub record AreLone (g : Topology) (plan : Plan) (lone : List ℕ) : Type 0 where
  pub apart : IsDistinct nat_eq lone
  pub are : (a : ℕ) → occurs a lone ≡ (has g a && is_lone g plan a)

-- the world that a line is over
abbrev pub world_of : Fixed → World
world_of f = base_world f.base.now

-- the number of the group of an AS's policy at the start
abbrev pub label_in : Fixed → ℕ → ℕ
label_in f a = label (kind_at (world_of f) a)

-- what is made for a line is right
pub record IsFixed (f : Fixed) : Type 0 where
  pub graph : IsGraphOf (world_of f) f.graph.now
  pub payloads : f.states.payloads ≡ (world_of f).payloads
  pub course : IsCourse f.graph.now f.course
  pub no_cycle : HasNoProviderCycle (relation f.graph.now)
  pub ranked : (a : ℕ) → IsRank (relation f.graph.now) a (rank_at f.ranks.now a)
  pub last : IsLastPlan f.ranks.now f.rank_plan
  pub ranks_are : (a : ℕ) → IsRank (relation f.graph.now) a (rank_after f.ranks.now f.rank_plan a)
  pub plan : IsPlanFor f.addr f.round (world_of f).plan f.plan
  pub small : IsWithinLimits f.plan
  pub from : 1 ≤ f.round
  pub to : f.round ≤ MOST_ROUNDS
  pub index : IsIndexOf f.graph.now (label_in f) f.index
  pub lone : AreLone f.graph.now (world_of f).plan f.lone.items
