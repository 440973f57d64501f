use Rattle.std.proofs.Common.{sym, ◌∙◌}
use Rattle.stability_laws.proofs.Books.{room_made, room_kept, no_lookup}
use Rattle.stability_laws.proofs.book.Book.room.Goals as goal

pub returns-then-is_some-clause-ok : goal.returns-then-is_some-clause-ok
returns-then-is_some-clause-ok g c = room_kept c.self.inside.rest c.self.inside.named.entries c.args.self.now c.self.view_is c.args.asn (sym c.get_index_of.ensures.found ∙ sym c.if-is_some.ensures)

pub returns-clause-ok : goal.returns-clause-ok
returns-clause-ok g c = room_made c.self.inside.rest c.self.inside.named.entries c.insert.new.self.entries c.args.self.now c.self.view_is c.insert.ensures.unique c.args.asn c.get_index_of.ensures.unique (no_lookup _ (sym c.get_index_of.ensures.found ∙ sym c.if-is_some.ensures)) c.in_ok-insert.ensures.entries c.in_ok-insert.ensures.updates.0
