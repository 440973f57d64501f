use Rattle.std.proofs.Common.{refl}
use Rattle.activations.proofs.Sound.{sound_hold}
use Rattle.activations.proofs.reading.put_hold.Goals as goal

pub returns-clause-sound : goal.returns-clause-sound
returns-clause-sound c =
    sound_hold c.args.acts _ c.args.number c.args.asn c.args.entry c.requires.sound c.requires.begins c.requires.few c.in_ok-put.ensures.ok refl c.in_ok-push.ensures.ok
