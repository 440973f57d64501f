use Rattle.std.proofs.Common.{None, refl, sym, subst}
use Rattle.caida_reader.specs.Firsts.{FirstMap}
use Rattle.caida_reader.specs.Runs.{Puts}
use Rattle.caida_reader.proofs.JoinLemmas.{puts_front}
use Rattle.caida_reader.proofs.firsts.put.Goals as goal

pub returns-then-branch-clause-ok : goal.returns-then-branch-clause-ok
returns-then-branch-clause-ok c =
    subst (λ (runs : FirstMap). Puts c.args.runs.now c.args.others.now (c.args.lo, c.args.hi) c.args.given runs c.args.others.now None) (sym (rw c.if-branch.true at c.in_ok-put.ensures.ok))
    (puts_front c.args.runs.now c.args.others.now (c.args.lo, c.args.hi) c.args.given c.requires (c.if-is_new.ensures refl) (c.if-is_empty.ensures refl (c.args.lo, c.args.hi)))
