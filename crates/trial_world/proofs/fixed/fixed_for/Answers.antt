use Rattle.std.proofs.Common.{◌≡◌, ◌∙◌, ℕ, sym, subst, arith}
use Rattle.std.proofs.lemmas.Bool.{and_parts}
use Rattle.as_graph.specs.Hierarchy.{IsRank}
use Rattle.as_graph.specs.Topology.{Topology, relation}
use Rattle.data_trace.specs.Indexes.{IsIndexOf}
use Rattle.rank_order.specs.Ranks.{KeptRanks, rank_at}
use Rattle.policy_kinds.specs.Kinds.{label}
use Rattle.stability_laws.specs.Plans.{Plan}
use Rattle.sim_core.specs.Bases.{base_world}
use Rattle.sim_core.specs.Lent.{IsGraphOf}
use Rattle.sim_core.specs.World.{World, has_round, topology}
use Rattle.sim_core.proofs.Watches.{round_within}
use Rattle.trial_world.specs.Fixed.{AreLone, IsPlanFor}
use Rattle.trial_world.proofs.fixed.fixed_for.Goals as goal

-- the ranks of a world are those of its graph, whichever room that has
ranked : (w : World) (g : Topology) (ranks : KeptRanks) → IsGraphOf w g → ((a : ℕ) → IsRank (relation (topology w)) a (rank_at ranks a)) → (a : ℕ) → IsRank (relation g) a (rank_at ranks a)
ranked w g ranks is each a = subst (λ (t : Topology). IsRank (relation t) a (rank_at ranks a)) (sym is) (each a)

pub of-requires : goal.of-requires
of-requires c = ranked (base_world c.args.base.now) c.graph-graph.result.now c.args.ranks.now c.graph-graph.ensures c.requires.ranks

pub returns-clause-right : goal.returns-clause-right
returns-clause-right c =
    let w = base_world c.args.base.now in
    let g = c.graph-graph.result.now in
    let ranks = c.args.ranks.now in
    let whole : c.plan-whole.result.now ≡ w.plan = c.plan-whole.ensures.value in
    let (low, high) = round_within w.rounds c.args.line.now.round (and_parts (has_round w c.args.line.now.round) _ c.requires.inside).0 in
    record {
      graph = c.graph-graph.ensures;
      payloads = c.in_ok-states.ensures ∙ c.vrps.ensures;
      course = c.in_ok-course.ensures;
      no_cycle = c.kept_are_stable.ensures.no_cycle w g c.graph-graph.ensures c.requires.no_cycle;
      ranked = ranked w g ranks c.graph-graph.ensures c.requires.ranks;
      last = c.none-rank_plan.ensures.last ranks;
      ranks_are = λ a. subst (λ (n : ℕ). IsRank (relation g) a n) (sym (c.none-rank_plan.ensures.same ranks a)) (ranked w g ranks c.graph-graph.ensures c.requires.ranks a);
      plan = subst (λ (t : Plan). IsPlanFor c.args.line.now.addr c.args.line.now.round t c.in_ok-plan.plan) whole c.in_ok-plan.ensures.part;
      small = c.in_ok-plan.ensures.small;
      from = low;
      to = omega (arith, high, c.rounds-rounds.ensures.value, c.rounds-rounds.ensures.few);
      index = subst (λ (k : ℕ → ℕ). IsIndexOf g k c.in_ok-index.index) (λ i a. label (c.book.ensures a i)) c.in_ok-index.ensures;
      lone = subst (λ (t : Plan). AreLone g t c.in_ok-lone.lone.items) whole c.in_ok-lone.ensures;
    }
