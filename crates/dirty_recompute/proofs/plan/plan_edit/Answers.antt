use Rattle.std.proofs.Common.{◌≡◌, Result, Ok, Err, length, sym, ◌∙◌, arith}
use Rattle.std.specs.Prelude.{IfOk}
use Rattle.std.proofs.lemmas.Bool.{eqb-true}
use Rattle.std.proofs.lemmas.List.{nil_from_length}
use Rattle.net_names.specs.Numbers.{occurs}
use Rattle.as_graph.specs.Topology.{relation}
use Rattle.route_choice.proofs.Room.{keeps_itself}
use Rattle.route_choice.specs.declared.overlay.Overlay.{Overlay}
use Rattle.route_choice.specs.Routings.{seeds_of}
use Rattle.route_choice.specs.Tables.{prefix_of, HasRoomForChanges}
use Rattle.dirty_recompute.specs.Clearing.{IsCleared}
use Rattle.dirty_recompute.specs.Plans.{IsPlanned}
use Rattle.dirty_recompute.specs.Resources.{has_change}
use Rattle.dirty_recompute.proofs.ClearLemmas.{cleared_exact, no_cells, no_steps, seeds_none}
use Rattle.dirty_recompute.proofs.plan.plan_edit.Goals as goal

pub returns-then-holds_any-clause-planned : goal.returns-then-holds_any-clause-planned
returns-then-holds_any-clause-planned g c = by c.clear_all.result c.clear_all.ensures.cleared c.clear_all.ensures.spare
  where
    by : {E : Type 0} (r : Result Overlay E) → IfOk r (IsCleared c.args.table.now) → IfOk r (HasRoomForChanges c.clear_all.new.table) →
        IfOk r (IsPlanned g.P.RoutePolicy.meaning g.V.OriginStates.state_of c.args.world.now c.args.edit.now c.args.table.now c.clear_all.new.table c.args.pool.now c.args.pool.now c.args.steps.now c.args.steps.now)
    by (Err e) cleared spare = cleared
    by (Ok o) cleared spare =
        let world = c.args.world.now in
        let seeds = c.args.edit.now.seeds.now in
        let pool = c.args.pool.now in
        let none : length c.ases.result.now ≡ 0 = eqb-true _ _ (sym c.is_empty.ensures ∙ c.if-is_empty.true) in
        record {
          exact = cleared_exact g.P.RoutePolicy.meaning c.one_stable_routing.ensures world.graph.now world.book.now (g.V.OriginStates.state_of world.states.now (prefix_of c.args.table.now)) (seeds_of pool seeds) c.requires.no_cycle
              (seeds_none pool seeds c.ases.result.now c.ases.ensures (nil_from_length c.ases.result.now none)) pool c.args.table.now c.clear_all.new.table o cleared c.clear_all.ensures.table.entries;
          enough = no_steps (relation world.graph.now) (λ b. occurs b c.args.edit.now.touched.now) (has_change o) c.args.steps.now;
          spare = spare;
          holds = λ k. omega (arith, cleared.takes.uses k);
          cells = no_cells pool o;
          kept = keeps_itself pool seeds;
        }
