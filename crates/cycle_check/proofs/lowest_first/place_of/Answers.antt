use Rattle.std.proofs.Common.{sym, arith}
use Rattle.cycle_check.proofs.Places.{place_is, place_past}
use Rattle.cycle_check.proofs.lowest_first.place_of.Goals as goal

pub returns-then-other-number-clause-place : goal.returns-then-other-number-clause-place
returns-then-other-number-clause-place c = sym (place_is c.args.numbers.now c.loop-place.place c.args.number c.loop-place-test.true c.if-other-number.true c.loop-place.invariant)

pub returns-clause-place : goal.returns-clause-place
returns-clause-place c = sym (place_past c.args.numbers.now c.args.number (λ k less. c.loop-place.invariant k (omega (arith, less, c.loop-place-test.false))))
