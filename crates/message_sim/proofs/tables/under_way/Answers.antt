use Rattle.std.proofs.Common.{sym, ◌∙◌}
use Rattle.message_sim.proofs.Queued.{counted}
use Rattle.message_sim.proofs.Values.{nothing}
use Rattle.message_sim.proofs.tables.under_way.Goals as goal

pub returns-then-len-eq0 : goal.returns-then-len-eq0
returns-then-len-eq0 c = λ ns distinct within.
    sym (counted ns distinct c.args.lines.now.entries c.len.ensures.unique within ∙ nothing c.args.lines.now.entries (sym c.len.ensures.len ∙ c.if-len-eq0.true))

pub returns : goal.returns
returns c = λ ns distinct within. c.requires ∙ sym (counted ns distinct c.args.lines.now.entries c.len.ensures.unique within)
