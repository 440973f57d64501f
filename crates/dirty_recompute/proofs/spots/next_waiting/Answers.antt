use Rattle.std.proofs.Common.{◌≡◌, false, Some, subst, sym, arith}
use Rattle.std.specs.Prelude.{slice_get}
use Rattle.dirty_recompute.specs.declared.spot.Spot.{Spot}
use Rattle.dirty_recompute.specs.Ways.{IsNoLater}
use Rattle.dirty_recompute.proofs.SpotLemmas.{ahead_at_first, ahead_next, ahead_of_place, none_ahead}
use Rattle.dirty_recompute.proofs.spots.next_waiting.Goals as goal

pub loop-step-init : goal.loop-step-init
loop-step-init c = ahead_at_first c.args.way c.args.low c.args.high c.args.items.now c.requires.within

pub loop-step-preserved : goal.loop-step-preserved
loop-step-preserved c =
    ahead_next c.args.way c.args.low c.args.high c.loop-step.step c.args.items.now (omega arith)
    (subst (λ p. (t : Spot) → slice_get c.args.items.now p ≡ Some t → t.waits ≡ false) c.nth_place-at.ensures (c.waits_here.ensures.no c.if-waits_here.false)) c.loop-step.invariant

pub returns-then-waits_here-clause-some : goal.returns-then-waits_here-clause-some
returns-then-waits_here-clause-some c =
    (c.waits_here.ensures.yes c.if-waits_here.true, λ j t got w. subst (λ p. IsNoLater c.args.way p j) (sym c.nth_place-at.ensures) (ahead_of_place c.args.way c.args.low c.args.high c.loop-step.step c.args.items.now c.loop-step.invariant j t got w))

pub returns-clause-none : goal.returns-clause-none
returns-clause-none c = none_ahead c.args.way c.args.low c.args.high c.loop-step.step c.args.items.now (omega arith) c.loop-step.invariant
