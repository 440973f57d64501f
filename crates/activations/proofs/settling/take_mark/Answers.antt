use Rattle.std.proofs.Common.{subst}
use Rattle.activations.specs.Settling.{StandsAt}
use Rattle.activations.proofs.Placing.{none_left, take_there}
use Rattle.activations.proofs.settling.take_mark.Goals as goal

pub returns-then-not-stands : goal.returns-then-not-stands
returns-then-not-stands c = none_left _ c.args.rows.now c.args.marks.now.items c.clear.new.self.items c.clear.ensures.items

pub returns : goal.returns
returns c =
    take_there c.args.rows.now c.args.marks.now.items c.args.place c.args.asn
    (subst (λ marks. StandsAt c.args.rows.now marks c.args.place c.args.asn) c.as_slice.ensures.value (c.stands.ensures c.if-not-stands.false)) c.requires
