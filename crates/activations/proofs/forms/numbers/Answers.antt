use Rattle.std.proofs.Common.{[], ◌∷◌, arith}
use Rattle.std.proofs.lemmas.List.{length-append}
use Rattle.net_names.specs.Texts.{fields}
use Rattle.activations.specs.Files.{numbers_in}
use Rattle.activations.proofs.Words.{behind-none, goes_on, stops, then_otc, only_otc, unread, last, cut_shorter}
use Rattle.activations.proofs.forms.numbers.Goals as goal

pub loop-word-init : goal.loop-word-init
loop-word-init c = record {
  so_far = rw c.new-path.ensures (behind-none (numbers_in (fields 32 c.args.text.now)));
  few = rw c.new-path.ensures (omega arith);
}

pub returns-in-Some-read_asn-clause-gives : goal.returns-in-Some-read_asn-clause-gives
returns-in-Some-read_asn-clause-gives c = then_otc c.loop-word.path c.loop-word.rest.now c.in-Some.word.now c.in-Some.more.now _ c.in-Some.ensures c.loop-word.invariant.so_far _ c.if-is_otc.ensures c.in-Some-read_asn.ensures

pub returns-in-None-clause-gives : goal.returns-in-None-clause-gives
returns-in-None-clause-gives c = then_otc c.loop-word.path c.loop-word.rest.now c.in-Some.word.now c.in-Some.more.now _ c.in-Some.ensures c.loop-word.invariant.so_far _ c.if-is_otc.ensures c.in-None.ensures

pub returns-in_default-read_asn-clause-gives : goal.returns-in_default-read_asn-clause-gives
returns-in_default-read_asn-clause-gives c = stops c.loop-word.path c.loop-word.rest.now c.in-Some.word.now c.in-Some.more.now _ c.in-Some.ensures c.loop-word.invariant.so_far c.if-is_otc.ensures c.in_default-read_asn.ensures

pub loop-word-preserved : goal.loop-word-preserved
loop-word-preserved c = record {
  so_far = rw c.in_ok-push.ensures.ok (goes_on c.loop-word.path c.loop-word.rest.now c.in-Some.word.now c.in-Some.more.now _ c.in-Some.ensures c.loop-word.invariant.so_far c.in-Some-read_asn-2.asn c.if-is_otc.ensures c.in-Some-read_asn-2.ensures);
  few = rw c.in_ok-push.ensures.ok (omega (arith, length-append c.loop-word.path (c.in-Some-read_asn-2.asn ∷ []), c.loop-word.invariant.few, cut_shorter c.loop-word.rest.now c.in-Some.word.now c.in-Some.more.now c.in-Some.ensures));
}

pub loop-word-smaller : goal.loop-word-smaller
loop-word-smaller c = cut_shorter c.loop-word.rest.now c.in-Some.word.now c.in-Some.more.now c.in-Some.ensures

pub returns-then-is_otc-2-clause-gives : goal.returns-then-is_otc-2-clause-gives
returns-then-is_otc-2-clause-gives c = only_otc c.loop-word.path c.loop-word.rest.now _ c.in_default.ensures c.loop-word.invariant.so_far c.if-is_otc-2.ensures

pub returns-in_default-read_asn-2-clause-gives : goal.returns-in_default-read_asn-2-clause-gives
returns-in_default-read_asn-2-clause-gives c = unread c.loop-word.path c.loop-word.rest.now _ c.in_default.ensures c.loop-word.invariant.so_far c.if-is_otc-2.ensures c.in_default-read_asn-2.ensures

pub returns-clause-gives : goal.returns-clause-gives
returns-clause-gives c = rw c.in_ok-push-2.ensures.ok (last c.loop-word.path c.loop-word.rest.now _ c.in_default.ensures c.loop-word.invariant.so_far c.in-Some-read_asn-3.asn c.if-is_otc-2.ensures c.in-Some-read_asn-3.ensures)
