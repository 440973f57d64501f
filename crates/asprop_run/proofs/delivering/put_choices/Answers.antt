use Rattle.std.proofs.lemmas.List.{take_all}
use Rattle.reports.proofs.Listing.{table_is}
use Rattle.asprop_run.proofs.delivering.put_choices.Goals as goal

pub returns : goal.returns
returns c =
    table_is c.args.graph.now c.ases-ases.result.now c.ases-ases.ensures.rising c.ases-ases.ensures.listed _ _ _ (rw (take_all c.loop-asn.asn-index c.ases-ases.result.now c.loop-asn-test.false) at c.loop-asn.invariant)
