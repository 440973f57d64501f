use Rattle.std.proofs.Common.{◌∙◌, sym, ap, Some}
use Rattle.net_names.proofs.LinkLemmas.{found, missed}
use Rattle.net_names.proofs.links.Links.find.Goals as goal

pub returns-in-Ok : goal.returns-in-Ok
returns-in-Ok c = ap (λ l. Some l.rel) c.index.ensures ∙ sym (found c.self.inside.items.items c.as_slice.result.now c.as_slice.ensures.value c.self.invariant c.args.self.now c.self.view_is c.args.lo c.args.hi c.in-Ok.at c.index.result.now (c.in-Ok.ensures.bound, c.in-Ok.ensures.position))

pub returns-in-Err : goal.returns-in-Err
returns-in-Err c = sym (missed c.self.inside.items.items c.as_slice.result.now c.as_slice.ensures.value c.self.invariant c.args.self.now c.self.view_is c.args.lo c.args.hi c.in-Err.field-0 (c.in-Err.ensures.bound, c.in-Err.ensures.position))
