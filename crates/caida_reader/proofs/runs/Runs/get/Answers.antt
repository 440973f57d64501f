use Rattle.std.proofs.Common.{◌∙◌, sym}
use Rattle.caida_reader.specs.Runs.{all_turned}
use Rattle.caida_reader.proofs.JoinLemmas.{get_front, get_back, get-all_turned}
use Rattle.caida_reader.proofs.runs.Runs.get.Goals as goal

pub returns-in-Some : goal.returns-in-Some
returns-in-Some c = rw (← c.self.view_is) (sym (get_front c.self.inside.rising (all_turned c.self.inside.turned) (c.args.lo, c.args.hi) c.in-Some.first (sym c.in-Some.ensures)))

pub returns-in-None : goal.returns-in-None
returns-in-None c =
    rw (← c.self.view_is) (c.get.ensures ∙ sym (get_back c.self.inside.rising (all_turned c.self.inside.turned) (c.args.lo, c.args.hi) (sym c.in-None.ensures) ∙ get-all_turned c.self.inside.turned c.args.lo c.args.hi))
