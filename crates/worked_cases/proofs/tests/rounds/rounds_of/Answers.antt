use Rattle.std.proofs.Common.{refl}
use Rattle.leak_round.specs.Rounds.{kept, plan_of, round_count}
use Rattle.worked_cases.proofs.Standing.{same_rounds}
use Rattle.worked_cases.proofs.tests.rounds.rounds_of.Goals as goal

pub returns-clause-stable : goal.returns-clause-stable
returns-clause-stable g c =
    let r = c.in-Ok-build.rounds in
    same_rounds _ c.in-Ok.plan (plan_of r) c.args.count (round_count r) (kept r) (kept r) c.in-Ok-build.ensures.built.plan c.in-Ok-build.ensures.built.count (λ round p a. refl) c.in-Ok-build.ensures.built.stable
