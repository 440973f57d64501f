use Rattle.std.proofs.Common.{◌≡◌, arith, refl, take}
use Rattle.std.proofs.lemmas.Int.Digits.{digits_value_more}
use Rattle.net_names.proofs.Numerals.{more, within, digits_go_on, small}
use Rattle.std.proofs.lemmas.List.{take_all}
use Rattle.net_names.proofs.reading.number.Goals as goal

pub overflow_mul-number : goal.overflow_mul-number
overflow_mul-number c =
    let w = within c.loop-byte.number c.loop-byte.byte-index c.args.radix 0 c.loop-byte.invariant.small c.requires.high (omega arith) (omega arith) in
    omega (arith, w)

pub overflow_add-number : goal.overflow_add-number
overflow_add-number c =
    let e = c.in_ok-digit.ensures.value in
    let w = within c.loop-byte.number c.loop-byte.byte-index c.args.radix c.in_ok-digit.digit c.loop-byte.invariant.small c.requires.high (omega (arith, e.0, e.1)) (omega arith) in
    omega (arith, w)

pub loop-byte-preserved : goal.loop-byte-preserved
loop-byte-preserved c =
    let e = c.in_ok-digit.ensures.value in
    record {
      value = rw (digits_value_more c.args.radix c.args.text.now c.loop-byte.byte-index (omega arith), ← c.loop-byte.invariant.value, e.1) refl;
      digits = digits_go_on c.args.radix c.loop-byte.byte-index c.args.text.now (omega arith) c.loop-byte.invariant.digits e.0;
      small = more c.loop-byte.number c.loop-byte.byte-index c.args.radix c.in_ok-digit.digit c.loop-byte.invariant.small c.requires.high (omega (arith, e.0, e.1));
    }

pub returns-clause-small : goal.returns-clause-small
returns-clause-small c =
    let e : take c.loop-byte.byte-index c.args.text.now ≡ c.args.text.now = take_all c.loop-byte.byte-index c.args.text.now (omega arith) in
    let v = rw e at c.loop-byte.invariant.value in
    let d = rw e at c.loop-byte.invariant.digits in
    rw v (small c.args.radix c.args.most c.args.text.now c.requires.low d (omega arith))
