use Rattle.std.proofs.Common.{◌≡◌, false, true≢false, Result, Ok, Err, refl, sym, ◌∙◌, subst, arith, rules}
use Rattle.std.specs.Prelude.{is_err, OnOk}
use Rattle.stability_laws.specs.World.{setting_in}
use Rattle.route_choice.specs.Routings.{routing_of, seeds_of, table_routing}
use Rattle.route_choice.specs.Tables.{prefix_of}
use Rattle.dirty_recompute.specs.Exact.{IsExact}
use Rattle.dirty_recompute.proofs.RankLemmas.{they_fall}
use Rattle.dirty_recompute.specs.Resources.{has_change, SameTable}
use Rattle.dirty_recompute.proofs.Going.{can_start, few_new_cells, same_routing, seeds_same, table_same, undone}
use Rattle.dirty_recompute.proofs.plan.plan_by_turns.Goals as goal
use Rattle.dirty_recompute.proofs.plan.plan_by_turns.Goals.{then-is_err-via-then-is_err, then-is_err-via-else-is_err+then-is_err-2}

-- a call that gave no error ensures what it ensures on success
not_err : {A E P : Type 0} (r : Result A E) → is_err r ≡ false → OnOk r P → P
not_err (Ok x) e h = h
not_err (Err x) e h = absurd (true≢false e)

pub invariant_of-ranked : goal.invariant_of-ranked
invariant_of-ranked g c = record {
  no_cycle = c.requires.no_cycle;
  falls = they_fall _ c.args.world.now.graph.now c.ranks_fit.ensures c.requires.no_cycle c.requires.ranks;
  seeds = c.requires.seeds;
}

pub put_changes-put-requires-clause-can : goal.put_changes-put-requires-clause-can
put_changes-put-requires-clause-can g c = can_start c.args.world.now.graph.now c.args.edit.now.seeds.now c.args.table.now c.args.pool.now c.new-overlay.result c.requires.counts c.requires.held c.new-overlay.ensures.uses c.requires.entries_live c.requires.seeds_live

pub undo-requires : goal.undo-requires
undo-requires g c = λ k. omega (arith, c.put_changes-put.ensures.kept.holds k, c.new-overlay.ensures.uses k)

pub returns-then-is_err-clause-table : goal.returns-then-is_err-clause-table
returns-then-is_err-clause-table g c =
    elim c.then-is_err.branch [
      | then-is_err-via-then-is_err w ↦ subst (SameTable c.args.table.now) (sym w.table-is) (record { prefix = refl; entries = λ a. refl; uses = λ k. refl })
      | then-is_err-via-else-is_err+then-is_err-2 w ↦ subst (SameTable c.args.table.now) (sym w.table-is) (record { prefix = w.room_for.ensures.prefix; entries = w.room_for.ensures.same; uses = w.room_for.ensures.uses })
    ]

pub returns-then-is_err-clause-err : goal.returns-then-is_err-clause-err
returns-then-is_err-clause-err g c =
    undone c.args.pool.now c.put_changes-put.new.pool c.undo.new.pool c.args.edit.now.seeds.now c.new-overlay.result c.put_changes-put.new.overlay c.new-overlay.ensures.uses c.put_changes-put.ensures.kept c.undo.ensures.holds c.undo.ensures.back

pub returns-clause-planned : goal.returns-clause-planned
returns-clause-planned g c =
    let here = setting_in g.P.RoutePolicy.meaning g.V.OriginStates.state_of c.args.world.now (prefix_of c.args.table.now) in
    let seeds = c.args.edit.now.seeds.now in let table = c.args.table.now in
    let pool = c.args.pool.now in let pool' = c.put_changes-put.new.pool in let overlay = c.put_changes-put.new.overlay in
    let put = c.put_changes-put.ensures in
    let good : is_err c.put_changes-put.result ≡ false = sym c.is_err.ensures.value ∙ c.if-is_err.false in
    let same_seeds : seeds_of pool seeds ≡ seeds_of pool' seeds = seeds_same pool pool' seeds put.kept.keeps in
    let same_table : table_routing pool table ≡ table_routing pool' table = table_same pool pool' seeds table put.kept.keeps c.requires.entries_live in
    let roomed : routing_of pool' c.room_for.new.self overlay ≡ routing_of pool' table overlay = sym (same_routing pool' table c.room_for.new.self overlay c.room_for.ensures.same) in
    record {
      exact = coe 1 0 (i. IsExact here (same_seeds i) (same_table i) (roomed i) (has_change overlay)) (not_err c.put_changes-put.result good put.exact);
      enough = not_err c.put_changes-put.result good put.enough;
      spare = search rules;
      holds = λ k. omega (arith, put.kept.holds k, c.new-overlay.ensures.uses k);
      cells = few_new_cells c.args.world.now.graph.now seeds table pool pool' overlay (not_err c.put_changes-put.result good put.can);
      kept = put.kept.keeps;
    }
