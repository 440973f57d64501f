use Rattle.std.proofs.Common.{subst}
use Rattle.policy_kinds.specs.declared.kind.Kind.{Kind}
use Rattle.stability_laws.specs.Book.{PolicyBook}
use Rattle.trial_world.specs.Trials.{AreKeptBefore, AreKeptIn}
use Rattle.trial_world.specs.declared.kept.Kept.{Kept}
use Rattle.trial_world.proofs.Keeping.{after_err}
use Rattle.trial_world.proofs.kept.Kept.follow.Goals as goal

pub follow-requires-clause-from : goal.follow-requires-clause-from
follow-requires-clause-from c = subst (λ (k : Kept). AreKeptBefore c.args.fixed.now c.args.book.now c.args.before.now k) c.in-Tables.is c.requires.from

pub returns-in-Tables-clause-err : goal.returns-in-Tables-clause-err
returns-in-Tables-clause-err c = after_err c.follow.result (λ stay (book : PolicyBook Kind) are. stay book (subst (λ (k : Kept). AreKeptIn c.args.fixed.now book k) c.in-Tables.is are)) c.follow.ensures.err
