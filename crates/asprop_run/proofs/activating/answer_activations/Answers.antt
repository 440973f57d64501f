use Rattle.std.proofs.Common.{◌≡◌, ◌++◌, ℕ, Bool, List, ap, refl, sym, subst, ◌∙◌}
use Rattle.std.proofs.lemmas.Result.{on_ok_weaker}
use Rattle.std.specs.FinMap as fin
use Rattle.activations.specs.Pieces.{IsMostPieces}
use Rattle.as_graph.specs.Hierarchy.{IsRank}
use Rattle.as_graph.specs.Topology.{has, relation}
use Rattle.net_names.specs.Numbers.{occurs}
use Rattle.reports.specs.Rows.{table}
use Rattle.stability_laws.specs.EntryTexts.{entry_row}
use Rattle.sim_core.specs.Sims.{kept, world_seen}
use Rattle.sim_core.specs.World.{topology}
use Rattle.asprop_run.specs.Settling.{acts_rows}
use Rattle.asprop_run.proofs.Acting.{activates_ases, holds_at_ases, same_has, same_height, same_table, settled_in}
use Rattle.asprop_run.proofs.Named.{accepted_routes, acts_named}
use Rattle.asprop_run.proofs.activating.answer_activations.Goals as goal

pub seeds_at-requires : goal.seeds_at-requires
seeds_at-requires c =
    let there = (acts_named (world_seen c.args.sim.now) c.args.acts.now c.requires.inside.0).0 in
    accepted_routes (world_seen c.args.sim.now) c.args.acts.now.round c.args.acts.now.prefix there.0 there.1

pub same_routing-requires : goal.same_routing-requires
same_routing-requires c a away =
    holds_at_ases (world_seen c.args.sim.now) c.graph-graph.result.now c.graph-graph.ensures c.args.acts.now c.requires.sound c.requires.inside a (sym (c.ases.ensures.listed a) ∙ away)

pub run_activations-requires-clause-only : goal.run_activations-requires-clause-only
run_activations-requires-clause-only c a there =
    activates_ases (world_seen c.args.sim.now) c.graph-graph.result.now c.graph-graph.ensures c.args.acts.now c.requires.sound c.requires.inside a (ap (occurs a) (sym c.as_slice-list.ensures) ∙ there)

pub run_activations-requires-clause-outside : goal.run_activations-requires-clause-outside
run_activations-requires-clause-outside c a away =
    c.in_ok-routing.ensures a ∙ holds_at_ases (world_seen c.args.sim.now) c.graph-graph.result.now c.graph-graph.ensures c.args.acts.now c.requires.sound c.requires.inside a away

pub height_of-height-requires : goal.height_of-height-requires
height_of-height-requires c a =
    subst (λ (r : ℕ → ℕ). IsRank (relation c.graph-graph.result.now) a (r a)) (sym c.ranks.ensures)
    (c.kept_are_stable.ensures.ranked (world_seen c.args.sim.now) c.graph-graph.result.now (kept c.args.sim.now) c.graph-graph.ensures c.requires.kept a)

pub returns : goal.returns
returns c =
    let w = world_seen c.args.sim.now in
    let g = c.graph-graph.result.now in
    let f = fin.get c.run_activations.new.routing in
    let run = settled_in c.kept_are_stable.ensures.setting w (kept c.args.sim.now) c.args.acts.now g c.book.result.now _ c.in_ok-seeds.seeds c.in_ok-routing.routing c.run_activations.new.routing c.in_ok-settled.settled
    c.graph-graph.ensures c.book.ensures (c.in_ok-states.ensures ∙ c.vrps.ensures) c.in_ok-seeds.ensures.seeds c.in_ok-routing.ensures (rw c.as_slice-list.ensures at c.in_ok-settled.ensures.activated) c.in_ok-settled.ensures.stable in
    let pieces : IsMostPieces (has (topology w)) c.args.acts.now.list c.in_ok-pieces.pieces =
    subst (λ (t : (ℕ → Bool) × List ℕ). IsMostPieces t.0 t.1 c.in_ok-pieces.pieces) (λ i. (same_has w g c.graph-graph.ensures i, c.as_slice-list.ensures i)) c.in_ok-pieces.ensures in
    let rows : c.put_rows.new.text.items ≡ table (topology w) (λ a. entry_row a (f a)) =
    c.in_ok-put_rows.ensures ∙ ap (λ (l : List ℕ). l ++ table g (λ a. entry_row a (f a))) c.clear.ensures.items ∙ same_table w g c.graph-graph.ensures (λ a. entry_row a (f a)) in
    on_ok_weaker c.put_settled.result
    (λ is. (
      refl,
      refl,
      (
        kept c.args.sim.now,
        c.requires.kept,
        f,
        c.in_ok-pieces.pieces,
        c.height_of-height.result,
        c.in_ok-settled.settled,
        (
          run.0,
          same_height w g c.graph-graph.ensures c.height_of-height.result c.height_of-height.ensures,
          pieces,
          run.1,
          is ∙ ap (λ (l : List ℕ). l ++ acts_rows c.in_ok-pieces.pieces c.height_of-height.result c.in_ok-settled.settled) rows,
        ),
      ),
    ))
    c.put_settled.ensures
