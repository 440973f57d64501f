use Rattle.std.proofs.Common.{sym, ap, ◌∙◌}
use Rattle.std.specs.FinMap as map
use Rattle.stability_laws.proofs.Stored.{stored_at}
use Rattle.stability_laws.proofs.routing.Seeds.get.Goals as goal

pub returns : goal.returns
returns c = c.get.ensures.value ∙ sym (stored_at c.self.inside.seeds.entries c.args.asn) ∙ ap (λ m. map.get m c.args.asn) c.self.view_is
