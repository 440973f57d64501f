use Rattle.std.proofs.Common.{None}
use Rattle.as_graph.proofs.LinkWrites.{both_ends, linked_apart}
use Rattle.as_graph.proofs.writes.take_link.Goals as goal

pub returns-clause-sets : goal.returns-clause-sets
returns-clause-sets c =
    both_ends c.args.rows.now c.take_end-at_a.new.rows c.take_end-at_b.new.rows c.args.a c.args.b None (linked_apart c.args.rows.now c.args.a c.args.b c.requires.graph c.requires.linked) c.requires.graph
    c.take_end-at_a.ensures.sets c.take_end-at_b.ensures.sets
