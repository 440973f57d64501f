use Rattle.std.proofs.Common.{rules, ◌≡◌, length, Some, None, sym, ap, ◌∙◌}
use Rattle.stability_laws.proofs.Books.{policy_is, policy_of_empty}
use Rattle.stability_laws.proofs.book.Book.policy_near.Goals as goal

pub returns-then-is_empty : goal.returns-then-is_empty
returns-then-is_empty g c =
    let none : length c.self.inside.named.entries ≡ 0 = search rules in
    policy_of_empty c.self.inside.rest c.self.inside.named.entries c.args.self.now c.self.view_is none c.args.asn

pub returns-in-Some-kept : goal.returns-in-Some-kept
returns-in-Some-kept g c =
    policy_is c.self.inside.rest c.self.inside.named.entries c.args.self.now c.self.view_is c.row_near.ensures.once c.args.asn (Some (Some c.in-Some-kept.policy)) (ap (λ o. Some o) (sym c.in-Some-kept.is) ∙ sym c.in-Some.ensures.row)

pub returns-in-None : goal.returns-in-None
returns-in-None g c =
    policy_is c.self.inside.rest c.self.inside.named.entries c.args.self.now c.self.view_is c.row_near.ensures.once c.args.asn (Some None) (ap (λ o. Some o) (sym c.in-None.is) ∙ sym c.in-Some.ensures.row)
