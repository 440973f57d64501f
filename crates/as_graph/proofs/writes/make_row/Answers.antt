use Rattle.std.proofs.Common.{sym, ◌∙◌}
use Rattle.as_graph.proofs.RowWrites.{none_from, row_made}
use Rattle.as_graph.proofs.writes.make_row.Goals as goal

pub returns-clause-keeps : goal.returns-clause-keeps
returns-clause-keeps c =
    row_made c.args.rows.now c.insert.new.self c.args.asn c.new.result (none_from _ (sym c.if-contains_key.false ∙ c.contains_key.ensures)) c.in_ok-insert.ensures.updates.0 c.insert.ensures.unique c.new.ensures.none
    c.new.ensures.unmarked
