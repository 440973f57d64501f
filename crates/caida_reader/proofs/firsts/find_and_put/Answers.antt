use Rattle.std.proofs.Common.{◌∙◌, sym, None, IfOk, subst}
use Rattle.caida_reader.specs.Firsts.{FirstMap}
use Rattle.caida_reader.specs.Runs.{Puts}
use Rattle.caida_reader.proofs.JoinLemmas.{get_front, get_back, puts_stood, puts_front, puts_back}
use Rattle.caida_reader.proofs.firsts.find_and_put.Goals as goal

pub returns-in-Some-clause-ok : goal.returns-in-Some-clause-ok
returns-in-Some-clause-ok c =
    puts_stood c.args.runs.now c.args.others.now (c.args.lo, c.args.hi) c.args.given c.requires c.in-Some.first (get_front c.args.runs.now c.args.others.now (c.args.lo, c.args.hi) c.in-Some.first (sym c.in-Some.ensures))

pub returns-then-not-takes-clause-ok : goal.returns-then-not-takes-clause-ok
returns-then-not-takes-clause-ok c =
    puts_back c.args.runs.now c.args.others.now (c.args.lo, c.args.hi) c.args.given c.requires (sym c.in-None.ensures) c.add.new.self c.add.result c.add.ensures.value c.add.ensures.after

pub returns-in-Some-get-clause-ok : goal.returns-in-Some-get-clause-ok
returns-in-Some-get-clause-ok c =
    puts_stood c.args.runs.now c.args.others.now (c.args.lo, c.args.hi) c.args.given c.requires c.in-Some-get.first
    (get_back c.args.runs.now c.args.others.now (c.args.lo, c.args.hi) (sym c.in-None.ensures) ∙ sym c.in-Some-get.ensures)

pub returns-then-branch-clause-ok : goal.returns-then-branch-clause-ok
returns-then-branch-clause-ok c =
    subst (λ (runs : FirstMap). Puts c.args.runs.now c.args.others.now (c.args.lo, c.args.hi) c.args.given runs c.args.others.now None) (sym (rw c.if-branch.true at c.in_ok-put.ensures.ok))
    (puts_front c.args.runs.now c.args.others.now (c.args.lo, c.args.hi) c.args.given c.requires (sym c.in-None.ensures) (sym c.in-None-get.ensures))

pub returns-clause-ok : goal.returns-clause-ok
returns-clause-ok c =
    subst (λ (runs : FirstMap). IfOk c.add-2.result (Puts c.args.runs.now c.args.others.now (c.args.lo, c.args.hi) c.args.given runs c.add-2.new.self)) (sym (rw c.if-branch.false at c.in_ok-put.ensures.ok))
    (puts_back c.args.runs.now c.args.others.now (c.args.lo, c.args.hi) c.args.given c.requires (sym c.in-None.ensures) c.add-2.new.self c.add-2.result c.add-2.ensures.value c.add-2.ensures.after)
