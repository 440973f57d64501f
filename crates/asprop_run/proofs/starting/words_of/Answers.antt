use Rattle.std.proofs.Common.{List, String, Global, subst, sym}
use Rattle.asprop_run.specs.Started.{Gives}
use Rattle.asprop_run.proofs.starting.words_of.Goals as goal

pub returns-in_ok-collect-in-Ok : goal.returns-in_ok-collect-in-Ok
returns-in_ok-collect-in-Ok c =
    let r = c.in_ok-collect-in-Ok.ensures.ran in
    rw c.in-Ok.is (subst (λ (words : List (String Global)). Gives c.in-Ok.args words) (sym r.2.0) (r.1.0, r.1.1, λ _. r.1.2 tt))
