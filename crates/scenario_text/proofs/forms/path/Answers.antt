use Rattle.std.proofs.Common.{[], ◌∷◌, arith}
use Rattle.std.proofs.lemmas.List.{length-append}
use Rattle.net_names.specs.Texts.{asn_of}
use Rattle.scenario_text.proofs.NumberLists.{starts, goes_on, stops, unread, last, full}
use Rattle.scenario_text.proofs.forms.path.Goals as goal

pub loop-i-init : goal.loop-i-init
loop-i-init c = record {
  so_far = rw c.new-path.ensures (starts asn_of c.args.text.now);
  count = rw c.new-path.ensures (omega arith);
}

pub returns-in_default-clause-gives : goal.returns-in_default-clause-gives
returns-in_default-clause-gives c = unread asn_of 64 c.loop-i.path c.loop-i.rest.now _ c.in-None.ensures c.in_default.ensures c.loop-i.invariant.so_far

pub returns-in-None-clause-gives : goal.returns-in-None-clause-gives
returns-in-None-clause-gives c = rw c.in_ok-push-in-None.ensures.ok (last asn_of 64 c.loop-i.path c.loop-i.rest.now c.in-Some-read_asn.asn _ c.in-None.ensures c.in-Some-read_asn.ensures (omega arith) c.loop-i.invariant.so_far)

pub returns-in_default-read_asn-clause-gives : goal.returns-in_default-read_asn-clause-gives
returns-in_default-read_asn-clause-gives c = stops asn_of 64 c.loop-i.path c.loop-i.rest.now c.in-Some.word.now c.in-Some.more.now _ c.in-Some.ensures c.in_default-read_asn.ensures c.loop-i.invariant.so_far

pub loop-i-preserved : goal.loop-i-preserved
loop-i-preserved c = record {
  so_far = rw c.in_ok-push-in-Some.ensures.ok (goes_on asn_of 64 c.loop-i.path c.loop-i.rest.now c.in-Some.word.now c.in-Some.more.now c.in-Some-read_asn-2.asn _ c.in-Some.ensures c.in-Some-read_asn-2.ensures c.loop-i.invariant.so_far);
  count = rw c.in_ok-push-in-Some.ensures.ok (omega (arith, length-append c.loop-i.path (c.in-Some-read_asn-2.asn ∷ []), c.loop-i.invariant.count));
}

pub returns-clause-gives : goal.returns-clause-gives
returns-clause-gives c = full asn_of 64 c.loop-i.path c.loop-i.rest.now _ (omega (arith, c.loop-i.invariant.count)) c.loop-i.invariant.so_far

pub returns-in-None-clause-few : goal.returns-in-None-clause-few
returns-in-None-clause-few c = rw c.in_ok-push-in-None.ensures.ok (omega (arith, length-append c.loop-i.path (c.in-Some-read_asn.asn ∷ []), c.loop-i.invariant.count), omega (arith, length-append c.loop-i.path (c.in-Some-read_asn.asn ∷ []), c.loop-i.invariant.count))
