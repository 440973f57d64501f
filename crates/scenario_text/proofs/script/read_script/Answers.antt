use Rattle.std.proofs.Common.{[], ◌∷◌, arith}
use Rattle.std.proofs.lemmas.List.{length-append}
use Rattle.std.proofs.lemmas.Result.{err_from_is_err_and}
use Rattle.scenario_text.proofs.Commands.{starts, keeps_at, fails_at, ends}
use Rattle.scenario_text.proofs.script.read_script.Goals as goal

pub loop-kept-init : goal.loop-kept-init
loop-kept-init c = record {
  so_far = rw c.new-lines.ensures (starts c.args.bytes.now);
  count = rw c.new-lines.ensures (omega arith);
  number = omega (arith, c.requires);
  few = omega arith;
}

pub returns-in_err-next : goal.returns-in_err-next
returns-in_err-next c =
    let p = err_from_is_err_and c.from_residual.result c.from_residual.ensures.1 in
    rw (p.1, p.2) (fails_at c.loop-kept.count c.in_err-next.field-0.0 c.loop-kept.lines _ _ _ _ c.loop-kept.invariant.count c.in-Some.ensures.some c.in_err-next.ensures.gives c.loop-kept.invariant.so_far)

pub loop-kept-preserved : goal.loop-kept-preserved
loop-kept-preserved c = record {
  so_far = rw c.in_ok-push.ensures.ok (keeps_at c.loop-kept.count c.loop-kept.lines _ _ _ c.in_ok-next.next _ c.loop-kept.invariant.count c.in-Some.ensures.some c.in_ok-next.ensures.gives c.loop-kept.invariant.so_far);
  count = rw c.in_ok-push.ensures.ok (omega (arith, length-append c.loop-kept.lines (c.in_ok-next.next ∷ []), c.loop-kept.invariant.count));
  number = omega (arith, c.loop-kept.invariant.number, c.in-Some.ensures.room);
  few = omega (arith, c.loop-kept.invariant.few, c.in-Some.ensures.later);
}

pub returns : goal.returns
returns c = ends c.loop-kept.lines _ _ c.in_default.ensures.none c.loop-kept.invariant.so_far
