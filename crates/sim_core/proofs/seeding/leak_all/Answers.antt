use Rattle.std.proofs.Common.{◌∙◌, ◌++◌, ap}
use Rattle.std.proofs.lemmas.List.{take_all}
use Rattle.sim_core.proofs.Plans.{leaks_in, one_leaker_more, with_leaks}
use Rattle.sim_core.proofs.seeding.leak_all.Goals as goal

pub loop-asn-preserved : goal.loop-asn-preserved
loop-asn-preserved c = λ before leaks is. one_leaker_more before leaks c.args.leakers.now c.loop-asn.asn-index c.args.round c.asn-item.result c.loop-asn.plan c.leaker.new.self c.loop-asn-test.true c.asn-item.is (c.loop-asn.invariant before leaks is) c.in_ok-leaker.ensures.ok

pub returns : goal.returns
returns c = λ before leaks is. c.loop-asn.invariant before leaks is ∙ ap (λ xs. with_leaks before (leaks ++ leaks_in c.args.round xs)) (take_all c.loop-asn.asn-index c.args.leakers.now c.loop-asn-test.false)
