use Rattle.std.proofs.Common.{◌∙◌, sym, ap}
use Rattle.std.specs.FinMap as fin
use Rattle.net_names.specs.Links.{LinkMap}
use Rattle.net_names.proofs.LinkLemmas.{count}
use Rattle.net_names.proofs.links.Links.len.Goals as goal

pub returns-clause-value : goal.returns-clause-value
returns-clause-value c = c.len.ensures ∙ (c.self.inside.items.ok.0 ∙ sym (count c.self.inside.items.items c.self.invariant) ∙ ap (λ (m : LinkMap). fin.len m) c.self.view_is)
