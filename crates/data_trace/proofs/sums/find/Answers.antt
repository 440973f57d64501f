use Rattle.std.proofs.Common.{refl, sym, ◌∙◌, ap}
use Rattle.std.specs.List.{list_any}
use Rattle.std.proofs.lemmas.List.{take_all}
use Rattle.data_trace.specs.Sums.{is_counted}
use Rattle.data_trace.proofs.Summing.{none_more}
use Rattle.data_trace.proofs.sums.find.Goals as goal

pub loop-place-init : goal.loop-place-init
loop-place-init c = refl

pub loop-place-preserved : goal.loop-place-preserved
loop-place-preserved c =
    none_more (is_counted c.args.end.now c.args.stub c.args.label) c.args.cells.now c.loop-place.place c.index-cells-place.result c.loop-place-test.true c.index-cells-place.is c.loop-place.invariant (sym c.is_counted.ensures ∙ c.if-is_counted.false)

pub returns-clause-none : goal.returns-clause-none
returns-clause-none c = ap (list_any (is_counted c.args.end.now c.args.stub c.args.label)) (sym (take_all c.loop-place.place c.args.cells.now c.loop-place-test.false)) ∙ c.loop-place.invariant
