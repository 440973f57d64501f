use Rattle.std.proofs.Common.{sym, subst, ◌<◌}
use Rattle.std.specs.FinMap as fin
use Rattle.caida_reader.specs.Firsts.{FirstMap}
use Rattle.caida_reader.proofs.JoinLemmas.{firsts_more}
use Rattle.caida_reader.proofs.firsts.Firsts.first.Goals as goal

pub invariant_of-self-in-None : goal.invariant_of-self-in-None
invariant_of-self-in-None c =
    firsts_more c.self.inside.runs c.self.inside.others c.put.new.runs c.put.new.others c.self.inside.count c.args.lo c.args.hi c.args.given c.self.invariant c.requires.lower
    (subst (λ (m : FirstMap). fin.len m < 1500000) (sym c.self.view_is) c.requires.room)
    (rw c.in-None.is at c.in_ok-first.ensures.ok)
