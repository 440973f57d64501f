use Rattle.std.proofs.Common.{refl, ◌∙◌, ap, arith}
use Rattle.std.specs.List.{sum_by}
use Rattle.std.proofs.lemmas.List.{take_all}
use Rattle.data_trace.specs.Watches.{in_group}
use Rattle.data_trace.specs.Sums.{part}
use Rattle.data_trace.proofs.Summing.{Test, all, sum_more, sum_fits}
use Rattle.data_trace.proofs.sums.Sums.size.Goals as goal

pub loop-cell-init : goal.loop-cell-init
loop-cell-init c = refl

pub overflow_add-sum : goal.overflow_add-sum
overflow_add-sum c =
    let p : Test = λ e s l. in_group c.args.which s l in
    omega (arith, c.requires, ap (sum_by (part all)) c.as_slice-cell-items.ensures.value, sum_fits p c.as_slice-cell-items.result.now c.loop-cell.cell-index c.cell-item.result c.loop-cell.sum c.weigh-sum.result c.loop-cell-test.true c.cell-item.is c.loop-cell.invariant c.weigh-sum.ensures)

pub loop-cell-preserved : goal.loop-cell-preserved
loop-cell-preserved c =
    let p : Test = λ e s l. in_group c.args.which s l in
    sum_more p c.as_slice-cell-items.result.now c.loop-cell.cell-index c.cell-item.result c.loop-cell.sum c.weigh-sum.result c.loop-cell-test.true c.cell-item.is c.loop-cell.invariant c.weigh-sum.ensures

pub returns : goal.returns
returns c =
    let p : Test = λ e s l. in_group c.args.which s l in
    c.loop-cell.invariant ∙ ap (sum_by (part p)) (take_all c.loop-cell.cell-index c.as_slice-cell-items.result.now c.loop-cell-test.false ∙ c.as_slice-cell-items.ensures.value)
