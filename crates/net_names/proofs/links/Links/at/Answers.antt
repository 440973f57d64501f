use Rattle.std.proofs.Common.{arith}
use Rattle.net_names.proofs.LinkLemmas.{at_some, at_none, at_lower}
use Rattle.net_names.proofs.links.Links.at.Goals as goal

pub returns-then-place-len-clause-value : goal.returns-then-place-len-clause-value
returns-then-place-len-clause-value c = at_some c.self.inside.items.items c.self.invariant c.args.self.now c.self.view_is c.args.place c.index.result.now (omega (arith, c.if-place-len.true, c.len.ensures, c.self.inside.items.ok.0)) c.index.ensures

pub returns-then-place-len-clause-lower : goal.returns-then-place-len-clause-lower
returns-then-place-len-clause-lower c = at_lower c.self.inside.items.items c.self.invariant c.args.place c.index.result.now (omega (arith, c.if-place-len.true, c.len.ensures, c.self.inside.items.ok.0)) c.index.ensures

pub returns-else-place-len-clause-value : goal.returns-else-place-len-clause-value
returns-else-place-len-clause-value c = at_none c.self.inside.items.items c.self.invariant c.args.self.now c.self.view_is c.args.place (omega (arith, c.if-place-len.false, c.len.ensures, c.self.inside.items.ok.0))
