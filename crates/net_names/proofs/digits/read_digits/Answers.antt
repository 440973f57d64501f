use Rattle.std.proofs.Common.{◌≡◌, ◌-◌, ◌<◌, ◌≤◌, ℕ, arith, refl, get_or}
use Rattle.std.specs.Char.{digit_value}
use Rattle.std.proofs.lemmas.Bool.{lt-ltb, le-ltb}
use Rattle.std.proofs.lemmas.Int.Digits.{digits_value_more}
use Rattle.net_names.proofs.Numerals.{more_decimal, digits_go_on}
use Rattle.net_names.proofs.digits.read_digits.Goals as goal

decimal : (byte : ℕ) → 48 ≤ byte → byte < 58 → digit_value byte ≡ byte - 48
decimal byte low high = rw (le-ltb byte 48 low, lt-ltb byte 58 high) refl

pub loop-len-preserved : goal.loop-len-preserved
loop-len-preserved c =
    let byte = get_or c.args.text.now c.loop-len.len 0 in
    let is = c.if-not-is_ascii_digit.ensures.cases in
    let value : digit_value byte ≡ byte - 48 = decimal byte is.0 (omega (arith, is.1)) in
    let lt = c.loop-len-test.true in
    record {
      value = rw (digits_value_more 10 c.args.text.now c.loop-len.len (omega (arith, lt)), ← c.loop-len.invariant.value, value) refl;
      digits = digits_go_on 10 c.loop-len.len c.args.text.now (omega (arith, lt)) c.loop-len.invariant.digits (omega (arith, value, is.0, is.1));
      within = omega (arith, lt);
      short = omega (arith, c.if-len-most.true);
      small = more_decimal c.loop-len.value c.loop-len.len (byte - 48) c.loop-len.invariant.small (omega (arith, is.0, is.1));
    }
