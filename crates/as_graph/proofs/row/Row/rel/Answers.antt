use Rattle.std.proofs.Common.{sym, ap, ◌∙◌, get_or, Some}
use Rattle.std.proofs.lemmas.List.{get_or_default}
use Rattle.as_graph.specs.declared.neighbour.Neighbour.{Neighbour}
use Rattle.as_graph.specs.Rows.{blank}
use Rattle.as_graph.proofs.RowLemmas.{rel_in-at, rel_in-gap}
use Rattle.as_graph.proofs.row.Row.rel.Goals as goal

pub returns-in-Ok : goal.returns-in-Ok
returns-in-Ok c =
    ap (λ l. Some (get_or l c.in-Ok.at c.index-all-at.result).rel) c.as_slice-all.ensures
    ∙ ap (λ (x : Neighbour). Some x.rel) (get_or_default c.args.self.now.neighbours.items c.in-Ok.at c.index-all-at.result blank c.in-Ok.ensures.found.in_range)
    ∙ sym (rel_in-at c.args.self.now.neighbours.items c.args.self.now.rising c.args.asn c.in-Ok.at c.in-Ok.ensures.found)

pub returns-in-Err : goal.returns-in-Err
returns-in-Err c = sym (rel_in-gap c.args.self.now.neighbours.items c.args.asn c.in-Err.field-0 c.in-Err.ensures.absent)
