use Rattle.std.proofs.Common.{sym, ap, ◌∙◌}
use Rattle.std.specs.FinMap as map
use Rattle.stability_laws.proofs.Stored.{stored_at}
use Rattle.stability_laws.proofs.routing.Routing.get.Goals as goal

pub returns-clause-value : goal.returns-clause-value
returns-clause-value c = c.get.ensures.value ∙ sym (stored_at c.self.inside.entries.entries c.args.asn) ∙ ap (λ m. map.get m c.args.asn) c.self.view_is
