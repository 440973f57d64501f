use Rattle.std.proofs.Common.{◌∙◌, sym}
use Rattle.sim_core.proofs.parts.Parts.give.Goals as goal

pub give_other-requires-clause-other : goal.give_other-requires-clause-other
give_other-requires-clause-other c = sym (c.is_other.ensures c.args.asn) ∙ c.if-is_other.true

pub returns-else-is_other-clause-ok : goal.returns-else-is_other-clause-ok
returns-else-is_other-clause-ok c = c.give_plain.ensures c.args.kind (sym (c.is_other.ensures c.args.asn) ∙ c.if-is_other.false)
