use Rattle.std.proofs.Common.{sym, ap, ◌∙◌, subst}
use Rattle.std.specs.FinMap as map
use Rattle.stability_laws.specs.Short.{HasShortPaths}
use Rattle.stability_laws.proofs.Stored.{stored_put}
use Rattle.stability_laws.proofs.Shorts.{short_insert}
use Rattle.stability_laws.proofs.routing.Routing.put.Goals as goal

pub returns-clause-ok : goal.returns-clause-ok
returns-clause-ok c =
    stored_put c.self.inside.entries.entries c.insert.new.self.entries c.args.asn c.args.entry c.in_ok-insert.ensures.updates.0
    ∙ ap (λ m. map.insert m c.args.asn c.args.entry) c.self.view_is

pub invariant_of-self-2 : goal.invariant_of-self-2
invariant_of-self-2 c =
    subst HasShortPaths (sym (stored_put c.self.inside.entries.entries c.insert.new.self.entries c.args.asn c.args.entry c.in_ok-insert.ensures.updates.0))
    (short_insert (map.from_entries c.self.inside.entries.entries) c.args.asn c.args.entry c.self.invariant c.requires)
