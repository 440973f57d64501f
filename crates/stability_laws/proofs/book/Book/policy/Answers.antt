use Rattle.std.proofs.Common.{rules, ◌≡◌, length}
use Rattle.stability_laws.proofs.Books.{policy_of_empty}
use Rattle.stability_laws.proofs.book.Book.policy.Goals as goal

pub returns-then-is_empty : goal.returns-then-is_empty
returns-then-is_empty g c =
    let none : length c.self.inside.named.entries ≡ 0 = search rules in
    policy_of_empty c.self.inside.rest c.self.inside.named.entries c.args.self.now c.self.view_is none c.args.asn
