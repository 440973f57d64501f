use Rattle.std.proofs.Common.{sym, ap, ◌∙◌, subst}
use Rattle.std.specs.FinMap as map
use Rattle.stability_laws.specs.Short.{HasShortPaths}
use Rattle.stability_laws.proofs.Stored.{stored_gone}
use Rattle.stability_laws.proofs.Shorts.{short_remove}
use Rattle.stability_laws.proofs.routing.Routing.clear.Goals as goal

pub returns : goal.returns
returns c =
    stored_gone c.self.inside.entries.entries c.remove.new.self.entries c.args.asn c.remove.ensures.updates.0
    ∙ ap (λ m. map.remove m c.args.asn) c.self.view_is

pub invariant_of-self : goal.invariant_of-self
invariant_of-self c =
    subst HasShortPaths (sym (stored_gone c.self.inside.entries.entries c.remove.new.self.entries c.args.asn c.remove.ensures.updates.0))
    (short_remove (map.from_entries c.self.inside.entries.entries) c.args.asn c.self.invariant)
