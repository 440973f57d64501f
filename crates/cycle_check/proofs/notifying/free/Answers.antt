use Rattle.std.proofs.Common.{◌≡◌, ◌+◌, ◌++◌, [], ◌∷◌, sym, subst, arith}
use Rattle.cycle_check.specs.Stages.{AreFree}
use Rattle.cycle_check.proofs.Stages.{free_push, free_keep}
use Rattle.cycle_check.proofs.notifying.free.Goals as goal
use Rattle.cycle_check.proofs.notifying.free.Goals.{then-counts-place-eq0+in_ok-push, else-counts-place-eq0}

pub loop-place-preserved : goal.loop-place-preserved
loop-place-preserved c =
    let i = c.loop-place.place in
    let counts = c.args.counts.now in
    elim c.if-counts-place-eq0.branch [
      | then-counts-place-eq0+in_ok-push w ↦ (
          let e : c.if-counts-place-eq0.order.items ≡ c.loop-place.order.items ++ i ∷ [] = cc (w.order-is, w.in_ok-push.ensures) in
          subst (λ xs. AreFree counts xs (i + 1)) (sym e) (free_push counts c.loop-place.order.items i c.loop-place.invariant w.if-counts-place-eq0.true))
      | else-counts-place-eq0 w ↦ (
          let e : c.if-counts-place-eq0.order.items ≡ c.loop-place.order.items = cc (w.order-is) in
          subst (λ xs. AreFree counts xs (i + 1)) (sym e) (free_keep counts c.loop-place.order.items i c.loop-place.invariant (omega (arith, w.if-counts-place-eq0.false))))
    ]
