use Rattle.std.proofs.Common.{[], ◌∷◌, arith}
use Rattle.std.proofs.lemmas.List.{length-append}
use Rattle.table_check.proofs.PathNumbers.{cut_shorter, starts, goes_on, stops, unread, last}
use Rattle.table_check.proofs.forms.numbers.Goals as goal

pub loop-word-init : goal.loop-word-init
loop-word-init c = record {
  so_far = rw c.in_ok-path.ensures (starts c.args.text.now);
  few = rw c.in_ok-path.ensures (omega arith);
}

pub returns-in_default-read_asn-clause-value : goal.returns-in_default-read_asn-clause-value
returns-in_default-read_asn-clause-value c = stops c.loop-word.path c.loop-word.rest.now c.in-Some.word.now c.in-Some.more.now _ c.in-Some.ensures c.loop-word.invariant.so_far c.in_default-read_asn.ensures

pub loop-word-preserved : goal.loop-word-preserved
loop-word-preserved c = record {
  so_far = rw c.in_ok-push.ensures.ok (goes_on c.loop-word.path c.loop-word.rest.now c.in-Some.word.now c.in-Some.more.now _ c.in-Some.ensures c.loop-word.invariant.so_far c.in-Some-read_asn.asn c.in-Some-read_asn.ensures);
  few = rw c.in_ok-push.ensures.ok (omega (arith, length-append c.loop-word.path (c.in-Some-read_asn.asn ∷ []), c.loop-word.invariant.few, (cut_shorter 32 c.loop-word.rest.now c.in-Some.word.now c.in-Some.more.now c.in-Some.ensures).1));
}

pub loop-word-smaller : goal.loop-word-smaller
loop-word-smaller c = (cut_shorter 32 c.loop-word.rest.now c.in-Some.word.now c.in-Some.more.now c.in-Some.ensures).1

pub returns-in_default-read_asn-2-clause-value : goal.returns-in_default-read_asn-2-clause-value
returns-in_default-read_asn-2-clause-value c = unread c.loop-word.path c.loop-word.rest.now _ c.in_default.ensures c.loop-word.invariant.so_far c.in_default-read_asn-2.ensures

pub returns-clause-value : goal.returns-clause-value
returns-clause-value c = rw c.in_ok-push-2.ensures.ok (last c.loop-word.path c.loop-word.rest.now _ c.in_default.ensures c.loop-word.invariant.so_far c.in-Some-read_asn-2.last c.in-Some-read_asn-2.ensures)
