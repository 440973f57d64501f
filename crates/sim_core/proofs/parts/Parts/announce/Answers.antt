use Rattle.std.proofs.Common.{◌≡◌, ◌∙◌, true, cond, Some, None, sym, ap}
use Rattle.leak_round.specs.Rounds.{plan_of}
use Rattle.scenario_text.specs.declared.acts.Edit.TheVariants.{Announce}
use Rattle.stability_laws.specs.Plans.{Plan, has_prefix}
use Rattle.sim_core.specs.Views.{world_seen}
use Rattle.sim_core.specs.declared.errors.EditError.TheVariants as refused
use Rattle.sim_core.proofs.LinkEdits.{limit_announcements}
use Rattle.sim_core.proofs.Doing.{as_it_was}
use Rattle.sim_core.proofs.Outcomes.{edit_unbegun}
use Rattle.sim_core.proofs.parts.Parts.announce.Goals as goal

pub returns-then-is_one_too_many : goal.returns-then-is_one_too_many
returns-then-is_one_too_many g c =
    let s = c.args.self.now in
    let known : has_prefix (plan_of s.rounds) c.args.prefix ≡ true = ap (λ (p : Plan). has_prefix p c.args.prefix) (sym c.seed_plan.ensures) ∙ sym c.if-not-has_prefix.ensures in
    let refusal = limit_announcements (world_seen s) (Announce c.args.prefix c.args.path.now) (λ i. cond (known i) None (Some (refused.UnknownPrefix c.args.prefix))) c.is_small.ensures.links (sym c.if-is_one_too_many.ensures) in
    record { edited = (refusal, as_it_was s); quick = tt }

pub returns-in_err-path : goal.returns-in_err-path
returns-in_err-path g c = edit_unbegun c.args.self.now _ c.from_residual.result _ _ c.from_residual.ensures.1
