use Rattle.std.proofs.Common.{◌≡◌, Some, take, arith, sym, rules}
use Rattle.std.proofs.lemmas.List.{length-take-le}
use Rattle.net_names.specs.Texts.{numeral}
use Rattle.net_names.proofs.TextLaws.{numeral_again}
use Rattle.caida_reader.proofs.DigitLemmas.{whole, asn_again}
use Rattle.caida_reader.proofs.digits.read_asn_field.Goals as goal

pub returns : goal.returns
returns c =
    let run = c.read_digits-run in
    let text = c.args.text.now in
    let l = length-take-le run.result.len text run.ensures.within in
    let read : numeral 10 10 (take run.result.len text) ≡ Some run.result.value =
    numeral_again 10 10 (take run.result.len text) run.result.value
    (omega (arith, l, c.if-run-eq0.false)) (omega (arith, l, run.ensures.short)) run.ensures.digits (sym run.ensures.value) in
    record {
      field = take run.result.len text;
      whole = whole text run.result.len (omega (arith, c.if-run-text.false)) (search rules);
      some = omega (arith, l, c.if-run-eq0.false);
      positive = omega (arith, c.if-run-eq0-2.false);
      digits = run.ensures.digits;
      value = asn_again (take run.result.len text) run.result.value read (omega (arith, c.if-run-eq0-2.false)) (omega (arith, c.if-run.false));
    }
