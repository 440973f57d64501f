use Rattle.roa_table.proofs.Tabled.{sound_is}
use Rattle.roa_table.proofs.table.Vrps.are_sound.Goals as goal

pub returns : goal.returns
returns c = sound_is c.self.inside.chunks.items c.self.inside.count c.self.invariant c.args.self.now c.self.view_is
