use Rattle.std.proofs.Common.{refl, ◌∙◌}
use Rattle.caida_reader.specs.Runs.{all_turned}
use Rattle.caida_reader.proofs.JoinLemmas.{get_back, get-all_turned}
use Rattle.caida_reader.proofs.RunLemmas.{get-past}
use Rattle.caida_reader.proofs.runs.Runs.is_new.Goals as goal

pub returns-then-is_new_in : goal.returns-then-is_new_in
returns-then-is_new_in c = λ past.
    rw (← c.self.view_is) (get_back c.self.inside.rising (all_turned c.self.inside.turned) (c.args.lo, c.args.hi) (c.if-is_new_in.ensures refl)
    ∙ get-all_turned c.self.inside.turned c.args.lo c.args.hi ∙ get-past c.self.inside.turned (c.args.hi, c.args.lo) (c.is_past.ensures past))
