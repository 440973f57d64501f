use Rattle.std.proofs.Common.{◌∙◌, ap}
use Rattle.std.proofs.lemmas.List.{take_all}
use Rattle.net_names.specs.Numbers.{occurs}
use Rattle.trial_world.proofs.PartPlans.{all_announced}
use Rattle.trial_world.proofs.parts.announce_prefix.Goals as goal

pub returns-clause-there : goal.returns-clause-there
returns-clause-there c = λ addr held old. all_announced addr c.args.whole.now c.loop-asn.part c.args.prefix (c.loop-asn.invariant.grown.part addr held old) (λ a h.
    c.loop-asn.invariant.there addr held old a (ap (occurs a) (take_all c.loop-asn.asn-index c.announcers-asn-items.result.now c.loop-asn-test.false ∙ c.announcers-asn-items.ensures) ∙ h))
