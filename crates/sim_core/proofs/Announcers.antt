-- Whoever announces something is an AS of a graph that has the marks of all named ASes.
use Rattle.std.proofs.Common.{◌≡◌, ℕ, true, IsTrue, is_some, Option, None, Some, refl, sym, ap, ◌∙◌}
use Rattle.std.specs.FinSet as set
use Rattle.std.specs.Ordering.{nat_cmp}
use Rattle.std.proofs.lemmas.Bool.{or_left, true≢false}
use Rattle.net_names.specs.Numbers.{occurs}
use Rattle.net_names.specs.Prefixes.{PrefixValue}
use Rattle.as_graph.specs.Topology.{Topology, has}
use Rattle.as_graph.proofs.RowAses.{occurs-append, occurs-items}
use Rattle.stability_laws.specs.Plans.{Plan, announced_path, announcers_of, announces}
use Rattle.stability_laws.proofs.PlanListings.{announcers_listed}
use Rattle.sim_core.specs.World.{graph_of, named}
use Rattle.sim_core.proofs.PolicyEdits.{Kinds, named_by}
use Rattle.sim_core.proofs.Standing.{stands}

pub is_announcer : (plan : Plan) (p : PrefixValue) (a : ℕ) → IsTrue (announces plan p a) → occurs a (announcers_of plan) ≡ true
is_announcer plan p a h = by (announced_path plan p a) refl h
  where
    by : (o : Option _) → announced_path plan p a ≡ o → IsTrue (is_some o) → occurs a (announcers_of plan) ≡ true
    by None is there = absurd (true≢false (sym there))
    by (Some path) is there = (let at = (announcers_listed plan).whole a (record { prefix = p; path = path; announced = is }) in stands a at.0 (announcers_of plan) at.1)

pub announcer_there : (graph : Topology) (plan : Plan) (kinds : Kinds) → graph_of graph.links graph.marked ≡ graph_of graph.links (set.from_list (named plan kinds)) → (p : PrefixValue) (a : ℕ) → IsTrue (announces plan p a) → has graph a ≡ true
announcer_there graph plan kinds is p a h =
    ap (λ (g : Topology). has g a) is
    ∙ (occurs-append a (set.items (set.from_list {R = nat_cmp} (named plan kinds))) _
    ∙ or_left (occurs a (set.items (set.from_list {R = nat_cmp} (named plan kinds)))) _ (occurs-items (set.from_list {R = nat_cmp} (named plan kinds)) a ∙ (named_by plan kinds a ∙ or_left (occurs a (announcers_of plan)) _ (is_announcer plan p a h))))
