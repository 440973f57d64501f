use Rattle.std.proofs.Common.{◌∙◌, ap, ◌==◌}
use Rattle.std.specs.Prelude.{if◌then◌else◌}
use Rattle.policy_kinds.specs.declared.kind.Kind.{Kind}
use Rattle.stability_laws.specs.Book.{PolicyBook, policy_at}
use Rattle.trial_world.proofs.KindBooks.{changed_more, given}
use Rattle.trial_world.proofs.kinds.give_all.Goals as goal

pub loop-change-preserved : goal.loop-change-preserved
loop-change-preserved c =
    let x = c.change-item.result in
    record {
      kinds = λ a. given c.loop-change.book c.set.new.self x.0 x.1 c.set.ensures a
          ∙ ap (λ (k : Kind). if x.0 == a then x.1 else k) (c.loop-change.invariant.kinds a)
          ∙ changed_more (policy_at c.args.book.now) c.args.changes.now c.loop-change.change-index x c.loop-change-test.true c.change-item.is a;
      room = ap (λ (b : PolicyBook Kind). b.room) c.set.ensures ∙ c.loop-change.invariant.room;
    }
