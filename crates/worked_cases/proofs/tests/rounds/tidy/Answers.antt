use Rattle.std.proofs.Common.{sym, ◌∙◌, arith}
use Rattle.leak_round.specs.Rounds.{kept, plan_of, round_count}
use Rattle.sim_core.proofs.Tidying.{few_hold, holder_is_as}
use Rattle.worked_cases.proofs.tests.rounds.tidy.Goals as goal

pub tidy-requires-clause-stable : goal.tidy-requires-clause-stable
tidy-requires-clause-stable g c = (c.requires.stable.0, c.requires.stable.2)

pub tidy-requires-clause-few : goal.tidy-requires-clause-few
tidy-requires-clause-few g c = λ before prefix less known.
    let r = c.args.rounds.now in
    let (world, same, are) = c.requires.stable in
    few_hold world (plan_of r) (round_count r) (kept r) are before prefix less known c.args.graph.now (λ a h. sym (same prefix a) ∙ h) (omega (arith, c.as_count-count.ensures.value, c.as_count-count.ensures.few))

pub tidy-requires-clause-among : goal.tidy-requires-clause-among
tidy-requires-clause-among g c = λ before prefix a less known h.
    let r = c.args.rounds.now in
    let (world, same, are) = c.requires.stable in
    c.rows.ensures.complete a (sym (same prefix a) ∙ holder_is_as world (plan_of r) (round_count r) (kept r) are before prefix less known a h)
