use Rattle.std.proofs.Common.{◌∙◌}
use Rattle.as_places.proofs.Kept.{insert_next}
use Rattle.as_places.proofs.gathering.gather.Goals as goal

pub loop-asn-preserved : goal.loop-asn-preserved
loop-asn-preserved c = c.in_ok-insert.ensures.keys ∙ insert_next c.args.ases.now c.loop-asn.set.keys c.loop-asn.asn-index c.asn-item.result c.requires c.loop-asn-test.true c.asn-item.is c.loop-asn.invariant
