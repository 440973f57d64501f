use Rattle.std.proofs.Common.{◌≡◌, subst, rules}
use Rattle.stability_laws.specs.SeedEdits.{IsEditOf}
use Rattle.stability_laws.specs.declared.seed_plan.edits.SeedEdit.TheVariants.{Withdraw}
use Rattle.leak_round.specs.Edited.{CanEdit}
use Rattle.leak_round.specs.Rounds.{kept, plan_of, round_count}
use Rattle.sim_core.proofs.SeedEdits.{edited_within, len_without}
use Rattle.worked_cases.proofs.Standing.{announced_before, no_entry}
use Rattle.worked_cases.proofs.tests.rounds.withdrawing.Goals as goal

pub plan-requires : goal.plan-requires
plan-requires g c =
    let r = c.args.rounds.now in
    let prefix = c.prefix-announced.result in
    let one = c.number-one.result in
    let edit = Withdraw prefix one in
    let known : IsEditOf (plan_of r) edit = search rules in
    record {
      closed = c.requires.closed;
      few_cells = c.requires.few;
      no_cycle = c.planned_ranks-ranks.ensures.no_cycle;
      last = c.planned_ranks-ranks.ensures.last;
      ranks = c.planned_ranks-ranks.ensures.after;
      can_edit = λ e is. (
          let same : edit ≡ e = cc in
          subst (CanEdit (plan_of r)) same (record {
            known = known;
            within = tt;
            limits = edited_within (plan_of r) edit c.requires.limits known tt (len_without (plan_of r) prefix one c.requires.limits.announcements);
          }));
      announcers = λ q a is. c.requires.announcers q a (announced_before (plan_of r) prefix q one a is);
      entries = λ round p b low high known none free. no_entry _ (plan_of r) (round_count r) (kept r) c.requires.stable round p b low high known none;
      right = λ before p b less known there free. (c.requires.stable before p less known).right b there;
    }
