use Rattle.std.proofs.Common.{ap, ◌∙◌}
use Rattle.std.specs.FinMap as map
use Rattle.stability_laws.proofs.Stored.{stored_put}
use Rattle.stability_laws.proofs.routing.Seeds.put.Goals as goal

pub returns-clause-ok : goal.returns-clause-ok
returns-clause-ok c =
    stored_put c.self.inside.seeds.entries c.insert.new.self.entries c.args.asn c.args.seed c.in_ok-insert.ensures.updates.0
    ∙ ap (λ m. map.insert m c.args.asn c.args.seed) c.self.view_is
