use Rattle.cycle_check.proofs.Ending.{has_met}
use Rattle.cycle_check.proofs.closing.turn.Goals as goal

pub returns-in_ok-met-in-Some-clause-cycle : goal.returns-in_ok-met-in-Some-clause-cycle
returns-in_ok-met-in-Some-clause-cycle c =
    c.in_ok-met-in-Some.ensures c.args.graph.now c.requires.differ
    (has_met c.args.graph.now c.args.pair.now.provider c.args.pair.now.customer c.requires.differ c.args.search.now.up c.step.new.self c.args.start c.args.other c.in-Some.at c.step.ensures.up c.requires.start c.requires.other c.in_ok-step.ensures.search c.in-Some.ensures.inside c.in-Some.ensures.found)
