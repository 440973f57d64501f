use Rattle.as_graph.specs.Topology.{relation}
use Rattle.activations.proofs.Placing.{renewed_after, renewed_still}
use Rattle.activations.proofs.settling.Settled.renew.Goals as goal

pub returns-then-not-changed-clause-marks : goal.returns-then-not-changed-clause-marks
returns-then-not-changed-clause-marks c =
    renewed_still (relation c.args.graph.now) c.args.asn c.args.changed c.if-not-changed.true c.args.self.now.rows.now c.args.self.now.marks.items c.put_mark.new.marks.items c.put_mark.ensures

pub returns-clause-marks : goal.returns-clause-marks
returns-clause-marks c =
    renewed_after (relation c.args.graph.now) c.args.asn c.args.changed c.args.self.now.rows.now c.args.self.now.marks.items c.take_marks_near.new.marks.items c.put_mark-2.new.marks.items c.take_marks_near.ensures c.put_mark-2.ensures
