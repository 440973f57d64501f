use Rattle.std.proofs.Common.{Some, None, nat_eq, sym, ◌∙◌}
use Rattle.std.proofs.lemmas.Result.{on_ok_weaker}
use Rattle.indexmap.specs.IndexMap.{Updates}
use Rattle.stability_laws.proofs.Books.{policy_cleared, nothing_cleared, no_lookup}
use Rattle.stability_laws.proofs.book.Book.clear.Goals as goal

pub returns-then-is_none : goal.returns-then-is_none
returns-then-is_none g c = nothing_cleared c.self.inside.rest c.self.inside.named.entries c.args.self.now c.self.view_is c.args.asn c.get_index_of.ensures.unique (no_lookup _ (sym c.get_index_of.ensures.found ∙ c.if-is_none.ensures))

pub returns : goal.returns
returns g c =
    policy_cleared c.self.inside.rest c.self.inside.named.entries c.insert.new.self.entries c.args.self.now c.self.view_is c.insert.ensures.unique c.args.asn c.insert.result (sym c.get_index_of.ensures.found ∙ c.if-is_none.ensures)
    c.insert.ensures.entries (on_ok_weaker {P = Updates nat_eq c.self.inside.named c.insert.new.self c.args.asn (Some None)} c.insert.result (λ u. u.0) c.insert.ensures.updates) c.insert.ensures.absent
