use Rattle.std.proofs.Common.{◌≡◌, ◌∙◌, true, cond, Some, None, sym, ap}
use Rattle.leak_round.specs.Rounds.{plan_of}
use Rattle.stability_laws.specs.Plans.{Plan, announces, has_prefix}
use Rattle.sim_core.specs.declared.errors.EditError.TheVariants as refused
use Rattle.sim_core.proofs.SeedEdits.{len_without}
use Rattle.sim_core.proofs.parts.Parts.withdraw.Goals as goal

pub edit_announcement-requires-clause-accepted : goal.edit_announcement-requires-clause-accepted
edit_announcement-requires-clause-accepted g c =
    let plan = plan_of c.args.self.now.rounds in
    let known : has_prefix plan c.args.prefix ≡ true = ap (λ (p : Plan). has_prefix p c.args.prefix) (sym c.seed_plan-plan.ensures) ∙ sym c.if-not-has_prefix.ensures in
    let there : announces plan c.args.prefix c.args.asn ≡ true = ap (λ (p : Plan). announces p c.args.prefix c.args.asn) (sym c.seed_plan-plan.ensures) ∙ sym c.if-not-announces.ensures.value in
    record {
      known = known;
      within = tt;
      few = len_without plan c.args.prefix c.args.asn c.args.self.now.small.announcements;
      there = λ i. cond (known i) (cond (there i) None (Some (refused.AbsentAnnouncement c.args.prefix c.args.asn))) (Some (refused.UnknownPrefix c.args.prefix));
    }
