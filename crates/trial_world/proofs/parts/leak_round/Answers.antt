use Rattle.std.proofs.Common.{◌||◌, ◌∙◌, Some, sym, ap}
use Rattle.std.proofs.lemmas.List.{take_all}
use Rattle.std.proofs.lemmas.Option.{slice_get-get_or}
use Rattle.net_names.specs.Numbers.{occurs}
use Rattle.stability_laws.specs.Plans.{Plan, leaks_in}
use Rattle.trial_world.proofs.PartPlans.{leak_more, of_round}
use Rattle.trial_world.proofs.parts.leak_round.Goals as goal

pub loop-asn-preserved : goal.loop-asn-preserved
loop-asn-preserved c =
    let xs = c.leakers-asn-items.result.now in
    let n = c.loop-asn.asn-index in
    let x = c.asn-item.result in
    let is = c.in_ok-leaker.ensures.ok in
    record {
      so_far = leak_more c.args.part.now c.loop-asn.part c.leaker.new.self c.args.round xs n x (slice_get-get_or xs n x c.loop-asn-test.true ∙ ap Some (sym c.asn-item.is)) is c.loop-asn.invariant.so_far;
      announced = ap (λ (p : Plan). p.announced) is ∙ c.loop-asn.invariant.announced;
      prefixes = ap (λ (p : Plan). p.prefixes) is ∙ c.loop-asn.invariant.prefixes;
    }

pub returns-clause-leaks : goal.returns-clause-leaks
returns-clause-leaks c = λ r a.
    c.loop-asn.invariant.so_far r a ∙ ap (λ b. b || leaks_in c.args.part.now r a)
    (of_round r c.args.round (λ s. leaks_in c.args.whole.now s a) (ap (occurs a) (take_all c.loop-asn.asn-index c.leakers-asn-items.result.now c.loop-asn-test.false) ∙ c.leakers-asn-items.ensures.who a))
