use Rattle.std.proofs.Common.{sym, ap, ◌∙◌, Some, None}
use Rattle.stability_laws.proofs.Books.{policy_is, policy_of_none, row_is}
use Rattle.stability_laws.proofs.book.Book.policy_by_row.Goals as goal

pub returns-in_default : goal.returns-in_default
returns-in_default g c = policy_of_none c.self.inside.rest c.self.inside.named.entries c.args.self.now c.self.view_is c.row_of.ensures.once c.args.asn (sym c.row_of.ensures.place ∙ c.in_default.is)

pub returns-in-Some-kept : goal.returns-in-Some-kept
returns-in-Some-kept g c =
    let found = c.in-Some-get_index in
    let row = row_is c.self.inside.named.entries c.args.asn c.in-Some.row found.field-0-0.now found.kept.now (sym c.row_of.ensures.place ∙ c.in-Some.is) found.ensures.entry found.ensures.value in
    policy_is c.self.inside.rest c.self.inside.named.entries c.args.self.now c.self.view_is c.row_of.ensures.once c.args.asn (Some (Some c.in-Some-kept.policy)) (ap (λ o. Some o) (sym c.in-Some-kept.is) ∙ row)

pub returns-in-None : goal.returns-in-None
returns-in-None g c =
    let found = c.in-Some-get_index in
    let row = row_is c.self.inside.named.entries c.args.asn c.in-Some.row found.field-0-0.now found.kept.now (sym c.row_of.ensures.place ∙ c.in-Some.is) found.ensures.entry found.ensures.value in
    policy_is c.self.inside.rest c.self.inside.named.entries c.args.self.now c.self.view_is c.row_of.ensures.once c.args.asn (Some None) (ap (λ o. Some o) (sym c.in-None.is) ∙ row)
