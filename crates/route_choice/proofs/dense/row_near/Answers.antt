use Rattle.std.proofs.Common.{ap, sym, ◌∙◌}
use Rattle.route_choice.specs.Dense.{marked_or}
use Rattle.indexmap.specs.IndexMap.{get}
use Rattle.std.specs.Prelude.{nat_eq}
use Rattle.route_choice.proofs.dense.row_near.Goals as goal

pub returns-in-Some : goal.returns-in-Some
returns-in-Some c = c.marked_row.ensures ∙ ap (marked_or (get nat_eq c.args.late.now c.args.asn) c.args.marks.now) (sym c.in-Some.is ∙ c.place_near.ensures)

pub returns-in-None : goal.returns-in-None
returns-in-None c = c.late_row.ensures ∙ ap (marked_or (get nat_eq c.args.late.now c.args.asn) c.args.marks.now) (sym c.in-None.is ∙ c.place_near.ensures)
