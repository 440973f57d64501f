use Rattle.std.proofs.Common.{◌∙◌, ap}
use Rattle.policy_kinds.specs.declared.kind.Kind.{Kind}
use Rattle.stability_laws.specs.Book.{PolicyBook}
use Rattle.trial_world.proofs.KindBooks.{room_more}
use Rattle.trial_world.proofs.kinds.room_for.Goals as goal

pub loop-change-preserved : goal.loop-change-preserved
loop-change-preserved c =
    let is = c.in_ok-room.ensures.ok in
    record {
      rest = ap (λ (b : PolicyBook Kind). b.rest) is ∙ c.loop-change.invariant.rest;
      named = ap (λ (b : PolicyBook Kind). b.named) is ∙ c.loop-change.invariant.named;
      room = room_more c.loop-change.book.room c.room.new.self.room c.args.changes.now c.loop-change.change-index c.change-item.result c.loop-change-test.true c.change-item.is (ap (λ (b : PolicyBook Kind). b.room) is) c.loop-change.invariant.room;
    }
