use Rattle.std.proofs.Common.{Some, subst}
use Rattle.net_names.specs.declared.routes.Rel.{Rel}
use Rattle.as_graph.specs.Writes.{SetsEnd}
use Rattle.as_graph.proofs.LinkWrites.{both_ends}
use Rattle.as_graph.proofs.writes.put_link.Goals as goal

pub returns : goal.returns
returns c =
    both_ends c.args.rows.now c.put_end-at_a.new.rows c.put_end-at_b.new.rows c.args.a c.args.b (Some c.args.rel) c.requires.differ c.requires.graph c.put_end-at_a.ensures
    (subst (λ (r : Rel). SetsEnd c.put_end-at_a.new.rows c.put_end-at_b.new.rows c.args.b c.args.a (Some r)) c.converse.ensures c.put_end-at_b.ensures)
