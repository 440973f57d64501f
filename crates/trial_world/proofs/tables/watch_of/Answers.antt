use Rattle.route_choice.specs.RoundTables.{round_routing}
use Rattle.data_trace.specs.Indexes.{has_as}
use Rattle.data_trace.specs.Views.{rows_of}
use Rattle.data_trace.proofs.Inside.{ok_gives}
use Rattle.leak_round.specs.Rounds.{kept}
use Rattle.sim_core.proofs.Hops.{same_rows}
use Rattle.trial_world.specs.Fixed.{label_in, world_of}
use Rattle.trial_world.specs.Tables.{AreLineRows}
use Rattle.trial_world.proofs.Watched.{seen_inside}
use Rattle.trial_world.proofs.tables.watch_of.Goals as goal

pub by_index-requires-clause-inside : goal.by_index-requires-clause-inside
by_index-requires-clause-inside c = seen_inside c.args.fixed.now c.requires.fixed c.args.rounds.now c.seen_in-seen.result c.seen_in-seen.ensures (has_as c.args.fixed.now.index) c.requires.fixed.index.listed c.requires.inside

pub returns-clause-rows : goal.returns-clause-rows
returns-clause-rows c =
    let f = c.args.fixed.now in
    let s = c.seen_in-seen.result in
    let is = c.seen_in-seen.ensures in
    let now = kept c.args.rounds.now f.round in
    ok_gives _ (λ watch. AreLineRows f now (rows_of watch)) c.by_index.result
    (λ watch rows. same_rows watch f.graph.now (label_in f) s.plan.now (world_of f).plan (round_routing s.pool.now s.tables.now) now f.addr is.plan is.routing (rows f.graph.now (label_in f) c.requires.fixed.index))
    c.by_index.ensures.rows
