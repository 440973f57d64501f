use Rattle.std.proofs.Common.{refl, ◌∙◌}
use Rattle.net_names.specs.Prefixes.{PrefixValue}
use Rattle.net_names.specs.declared.routes.State.TheVariants.{NotFound}
use Rattle.policy_kinds.specs.Kinds.{kind_policy}
use Rattle.stability_laws.specs.Offers.{Setting}
use Rattle.stability_laws.specs.World.{setting}
use Rattle.leak_round.specs.Plans.{kept_with, plan_after}
use Rattle.leak_round.specs.Rounds.{kept, plan_of, round_count}
use Rattle.worked_cases.proofs.Standing.{same_rounds}
use Rattle.worked_cases.proofs.tests.rounds.withdrawn.Goals as goal

pub withdrawing-plan-requires-2-clause-stable : goal.withdrawing-plan-requires-2-clause-stable
withdrawing-plan-requires-2-clause-stable g c =
    let built = c.rounds_of-rounds.result in
    let now = c.undo.new.self in
    same_rounds _ (plan_of built) (plan_of now) (round_count built) (round_count now) (kept built) (kept now)
    (c.undo.ensures.plan ∙ c.withdrawing-plan.ensures.plan)
    (c.undo.ensures.rounds ∙ c.withdrawing-plan.ensures.count)
    (λ round p a. c.undo.ensures.kept round p a ∙ c.withdrawing-plan.ensures.kept round p a)
    c.rounds_of-rounds.ensures.stable

pub tidy-requires-clause-stable : goal.tidy-requires-clause-stable
tidy-requires-clause-stable g c =
    let planned = c.withdrawing-plan-2.new.rounds in
    let plan = c.withdrawing-plan-2.result in
    let r = c.commit-done.new.self in
    let world : PrefixValue → Setting = λ p. setting kind_policy c.args.graph.now c.args.book.now (λ origin. NotFound) in
    (world, λ p a. refl, same_rounds world (plan_after planned plan) (plan_of r) (round_count planned) (round_count r) (kept_with planned plan) (kept r) c.commit-done.ensures.plan c.commit-done.ensures.rounds c.commit-done.ensures.kept c.withdrawing-plan-2.ensures.after)
