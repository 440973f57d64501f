use Rattle.std.proofs.lemmas.List.{take_all}
use Rattle.reports.proofs.Listing.{table_is}
use Rattle.reports.proofs.rows.put_routes.Goals as goal

pub returns-clause-ok : goal.returns-clause-ok
returns-clause-ok c =
    table_is c.args.graph.now c.ases-ases.result.now c.ases-ases.ensures.rising c.ases-ases.ensures.listed _ _ _ (rw (take_all c.loop-place.place c.ases-ases.result.now c.loop-place-test.false) at c.loop-place.invariant)
