use Rattle.std.proofs.Common.{◌∙◌, ap, ◌==◌}
use Rattle.std.specs.Prelude.{if◌then◌else◌}
use Rattle.policy_kinds.specs.declared.kind.Kind.{Kind}
use Rattle.stability_laws.specs.Book.{PolicyBook, policy_at}
use Rattle.trial_world.proofs.KindBooks.{given, room_there}
use Rattle.trial_world.proofs.kinds.give.Goals as goal

pub set-requires : goal.set-requires
set-requires c = room_there c.args.book.now.room c.room.new.self.room c.args.asn (ap (λ (b : PolicyBook Kind). b.room) c.in_ok-room.ensures.ok)

pub returns : goal.returns
returns c = λ a. given c.room.new.self c.set.new.self c.args.asn c.args.kind c.set.ensures a
    ∙ ap (λ (b : PolicyBook Kind). if c.args.asn == a then c.args.kind else policy_at b a) c.in_ok-room.ensures.ok
