use Rattle.std.proofs.Common.{map as each, option_map, take_all, ap, ◌∙◌}
use Rattle.table_check.specs.Rows.{held_by}
use Rattle.table_check.specs.Walk.{brief_of}
use Rattle.table_check.proofs.placed.held_by_rows.Goals as goal

pub returns-clause-briefs : goal.returns-clause-briefs
returns-clause-briefs c = c.loop-asn.invariant.briefs ∙ ap (each (λ a. option_map brief_of (held_by c.args.table.now c.args.round a))) (take_all c.loop-asn.asn-index c.args.rows.now c.loop-asn-test.false)

pub returns-clause-held : goal.returns-clause-held
returns-clause-held c = c.loop-asn.invariant.held ∙ ap (each (λ a. held_by c.args.table.now c.args.round a)) (take_all c.loop-asn.asn-index c.args.rows.now c.loop-asn-test.false)
