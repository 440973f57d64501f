use Rattle.std.proofs.Common.{sym, ◌∙◌, ap, arith}
use Rattle.std.specs.List.{sum_by}
use Rattle.std.proofs.lemmas.List.{take_all}
use Rattle.data_trace.specs.declared.cell.Cell.{Cell}
use Rattle.data_trace.specs.Sums.{part}
use Rattle.data_trace.proofs.Summing.{all, some_more}
use Rattle.data_trace.proofs.sums.free.Goals as goal

pub loop-place-init : goal.loop-place-init
loop-place-init c = omega arith

pub loop-place-preserved : goal.loop-place-preserved
loop-place-preserved c = some_more c.args.cells.now c.loop-place.place c.index-cells-place.result c.loop-place-test.true c.index-cells-place.is c.loop-place.invariant (λ e. c.if-cells-place-eq0.false (ap (λ (x : Cell). x.count) (sym c.index-cells-place.is) ∙ e))

pub returns-clause-none : goal.returns-clause-none
returns-clause-none c = omega (arith, c.loop-place.invariant, ap (sum_by (part all)) (take_all c.loop-place.place c.args.cells.now c.loop-place-test.false), c.loop-place-test.false)
