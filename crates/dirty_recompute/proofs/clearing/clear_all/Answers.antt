use Rattle.dirty_recompute.proofs.ClearLemmas.{cleared_all}
use Rattle.dirty_recompute.proofs.clearing.clear_all.Goals as goal

pub returns-clause-cleared : goal.returns-clause-cleared
returns-clause-cleared c =
    cleared_all c.args.table.now c.new-overlay.result c.clear.new.overlay c.clear-2.new.overlay c.rows.result.now c.args.touched.now c.args.graph.now c.rows.ensures.complete c.requires c.in_ok-clear.ensures c.in_ok-clear-2.ensures
