use Rattle.std.proofs.Common.{◌∙◌, ap, sym, subst, IsTrue}
use Rattle.std.specs.FinSet as set
use Rattle.stability_laws.specs.Book.{PolicyBook}
use Rattle.policy_kinds.specs.declared.kind.Kind.{Kind}
use Rattle.std.specs.FinMap as fin
use Rattle.sim_core.proofs.Plans.{named_too, unnamed, has_room}
use Rattle.sim_core.proofs.seeding.name_policy.Goals as goal

pub set-requires : goal.set-requires
set-requires c = subst (λ (b : PolicyBook Kind). IsTrue (set.contains b.room c.args.policy.0)) (sym c.in_ok-room.ensures.ok) (has_room c.args.book.now.room c.args.policy.0)

pub returns-clause-named : goal.returns-clause-named
returns-clause-named c = λ before others so.
    named_too before c.args.policy c.args.book.now.named c.set.new.self.named others (sym (c.if-not-is_other.ensures c.args.policy.0)) so
    (ap (λ (b : PolicyBook Kind). b.named) c.set.ensures ∙ ap (λ (b : PolicyBook Kind). fin.insert b.named c.args.policy.0 c.args.policy.1) c.in_ok-room.ensures.ok)

pub returns-then-not-is_other-clause-named : goal.returns-then-not-is_other-clause-named
returns-then-not-is_other-clause-named c = λ before others so. so ∙ unnamed before c.args.policy (sym (c.if-not-is_other.ensures c.args.policy.0))
