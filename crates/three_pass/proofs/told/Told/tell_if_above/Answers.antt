use Rattle.std.proofs.Common.{Some, sym, ◌∙◌, ap}
use Rattle.three_pass.proofs.told.Told.tell_if_above.Goals as goal

pub returns-then-ne-clause-sound : goal.returns-then-ne-clause-sound
returns-then-ne-clause-sound c = λ w here are. c.tell.ensures.sound w (here ∙ ap Some (sym c.converse.ensures)) are
