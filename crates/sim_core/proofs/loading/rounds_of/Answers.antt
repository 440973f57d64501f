use Rattle.data_trace.proofs.Inside.{ok_gives}
use Rattle.sim_core.specs.Parts.{AreRoundsOf}
use Rattle.sim_core.proofs.loading.rounds_of.Goals as goal

pub returns-clause-rounds : goal.returns-clause-rounds
returns-clause-rounds g c =
    let w = c.args.world.now in
    ok_gives _ (AreRoundsOf w.graph.now w.states.now.payloads w.book.now c.args.plan c.args.count) c.build.result
    (λ rounds built. record { plan_is = built.plan; count_is = built.count; stable = built.stable; only = built.only }) c.build.ensures.built

pub returns-clause-closed : goal.returns-clause-closed
returns-clause-closed g c = ok_gives _ _ c.build.result (λ rounds built. built.closed) c.build.ensures.built
