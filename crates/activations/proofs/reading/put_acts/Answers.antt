use Rattle.std.proofs.Common.{◌≡◌, ◌++◌, map, take, take_all, ap, ◌∙◌}
use Rattle.activations.proofs.Sound.{sound_acts}
use Rattle.activations.proofs.reading.put_acts.Goals as goal

pub returns-clause-sound : goal.returns-clause-sound
returns-clause-sound c =
    let before = c.args.acts in
    let whole : take c.loop-asn.asn-index c.args.ases.now ≡ c.args.ases.now = take_all c.loop-asn.asn-index c.args.ases.now c.loop-asn-test.false in
    let now = c.loop-asn.invariant in
    sound_acts before c.loop-asn.acts c.args.number c.args.ases.now c.requires (ap (λ t. t.held) now)
    (ap (λ t. t.list) now ∙ ap (λ t. before.list ++ t) whole) (ap (λ t. t.named) now ∙ ap (λ t. before.named ++ map (λ a. (c.args.number, a)) t) whole)
