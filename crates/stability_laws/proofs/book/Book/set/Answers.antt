use Rattle.std.proofs.Common.{Some, nat_eq}
use Rattle.std.proofs.lemmas.Result.{on_ok_weaker}
use Rattle.indexmap.specs.IndexMap.{Updates}
use Rattle.stability_laws.proofs.Books.{policy_set}
use Rattle.stability_laws.proofs.book.Book.set.Goals as goal

pub returns : goal.returns
returns g c =
    policy_set c.self.inside.rest c.self.inside.named.entries c.insert.new.self.entries c.args.self.now c.self.view_is c.insert.ensures.unique c.args.asn c.insert.result c.args.policy c.requires
    c.insert.ensures.entries (on_ok_weaker {P = Updates nat_eq c.self.inside.named c.insert.new.self c.args.asn (Some (Some c.args.policy))} c.insert.result (λ u. u.0) c.insert.ensures.updates) c.insert.ensures.absent
