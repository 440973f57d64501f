use Rattle.std.proofs.Common.{◌∙◌, ap}
use Rattle.std.specs.Prelude.{filter}
use Rattle.std.proofs.lemmas.List.{take_all}
use Rattle.trial_world.specs.Fixed.{is_lone}
use Rattle.trial_world.proofs.LoneAses.{picked}
use Rattle.trial_world.proofs.lone.lone_ases.Goals as goal

pub returns : goal.returns
returns c = picked c.args.graph.now c.args.plan.now c.ases-asn-items.result.now c.loop-asn.lone.items c.ases-asn-items.ensures.apart c.ases-asn-items.ensures.listed
    (c.loop-asn.invariant ∙ ap (filter (is_lone c.args.graph.now c.args.plan.now)) (take_all c.loop-asn.asn-index c.ases-asn-items.result.now c.loop-asn-test.false))
