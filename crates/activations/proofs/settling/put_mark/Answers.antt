use Rattle.std.proofs.Common.{subst}
use Rattle.activations.specs.Settling.{StandsAt}
use Rattle.activations.proofs.Placing.{all_stay, put_there}
use Rattle.activations.proofs.settling.put_mark.Goals as goal

pub returns-then-not-stands : goal.returns-then-not-stands
returns-then-not-stands c = all_stay c.args.rows.now c.args.asn c.args.marks.now.items

pub returns : goal.returns
returns c =
    put_there c.args.rows.now c.args.marks.now.items c.args.place c.args.asn
    (subst (λ marks. StandsAt c.args.rows.now marks c.args.place c.args.asn) c.as_slice.ensures.value (c.stands.ensures c.if-not-stands.false))
