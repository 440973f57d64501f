use Rattle.std.proofs.Common.{sym, ap, subst, ◌∙◌}
use Rattle.std.specs.List.{list_all}
use Rattle.std.specs.Map.Iter.{deref_pair}
use Rattle.std.proofs.lemmas.Map.Iter.{iter_end}
use Rattle.as_graph.specs.Topology.{has}
use Rattle.table_check.specs.Rows.{held_by, inside_row}
use Rattle.table_check.proofs.RowMaps.{all_more, flat, get_row, nobody_else}
use Rattle.table_check.proofs.rows.Rows.are_inside.Goals as goal

pub rows-preserved : goal.rows-preserved
rows-preserved c =
    all_more deref_pair (inside_row (has c.args.graph.now) c.args.round) c.rows.yielded (c.in-Some.key, c.in-Some.held) c.rows.invariant
    (sym c.is_inside.ensures ∙ c.if-not-is_inside.false)

pub returns : goal.returns
returns c = λ yes a out.
    let es = c.self.inside.entries.entries in
    let whole = iter_end deref_pair es c.rows.yielded c.into_iter-key-iterator.result c.rows.key-iterator c.next.new.self c.next.result (cc) c.rows.yielded_by c.in-None.is c.next.ensures.steps in
    ap (λ rows. held_by rows c.args.round a) (sym c.self.view_is) ∙ ap flat (get_row es (c.args.round, a))
    ∙ nobody_else (has c.args.graph.now) c.args.round a es (ap (list_all (inside_row (has c.args.graph.now) c.args.round)) (sym whole.0) ∙ c.rows.invariant) out
