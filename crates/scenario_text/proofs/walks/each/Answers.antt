use Rattle.std.proofs.Common.{arith}
use Rattle.std.proofs.lemmas.Result.{err_from_is_err_and}
use Rattle.scenario_text.specs.Places.{item}
use Rattle.scenario_text.proofs.Walking.{starts, goes_on, ends}
use Rattle.scenario_text.proofs.Faulty.{fails}
use Rattle.scenario_text.proofs.walks.each.Goals as goal

pub loop-i-init : goal.loop-i-init
loop-i-init g c = rw c.new-out.ensures.items (starts (λ i. g.R.Reading.gives (item c.args.place i)) c.args.items.now)

pub returns-in_err-next : goal.returns-in_err-next
returns-in_err-next g c =
    let p = err_from_is_err_and c.from_residual.result c.from_residual.ensures.1 in
    let h = rw (c.index-items-i.is, c.item.ensures) at c.in_err-next.ensures in
    rw (p.1, p.2) (fails (λ i. g.R.Reading.gives (item c.args.place i)) c.args.items.now c.loop-i.out.items c.loop-i.i c.index-items-i.result c.in_err-next.field-0.0 _ (omega arith) h c.loop-i.invariant)

pub loop-i-preserved : goal.loop-i-preserved
loop-i-preserved g c =
    let h = rw (c.index-items-i.is, c.item.ensures) at c.in_ok-next.ensures in
    rw c.in_ok-push.ensures.items (goes_on (λ i. g.R.Reading.gives (item c.args.place i)) c.args.items.now c.loop-i.out.items c.loop-i.i c.index-items-i.result c.in_ok-next.next _ (omega arith) h c.loop-i.invariant)

pub returns : goal.returns
returns g c = ends (λ i. g.R.Reading.gives (item c.args.place i)) c.args.items.now c.loop-i.out.items c.loop-i.i _ (omega arith) c.loop-i.invariant
