use Rattle.std.proofs.Common.{subst, ◌∙◌}
use Rattle.stability_laws.specs.SeedEdits.{IsEditWithin}
use Rattle.stability_laws.proofs.PlanEdits.{not_without, announced_anew, announcer_is}
use Rattle.stability_laws.proofs.seed_plan.SeedPlan.edited.Goals as goal

pub announce-requires-clause-new : goal.announce-requires-clause-new
announce-requires-clause-new c =
    let first = announcer_is c.in-Announce.path c.as_slice.result.now c.index-as_slice-0.result (subst (IsEditWithin 4294967294) c.in-Announce.is c.requires.within).0 c.as_slice.ensures c.index-as_slice-0.is in
    rw (c.in_ok-plan-in-Announce.ensures, c.in_ok-path-in-Announce.ensures, first) (not_without c.args.self.now c.in-Announce.prefix c.in-Announce.path)

pub returns-in_ok-announce-in-Announce : goal.returns-in_ok-announce-in-Announce
returns-in_ok-announce-in-Announce c =
    let first = announcer_is c.in-Announce.path c.as_slice.result.now c.index-as_slice-0.result (subst (IsEditWithin 4294967294) c.in-Announce.is c.requires.within).0 c.as_slice.ensures c.index-as_slice-0.is in
    c.in_ok-announce-in-Announce.ensures.ok ∙ rw (c.in_ok-plan-in-Announce.ensures, c.in_ok-path-in-Announce.ensures, first, c.in-Announce.is) (announced_anew c.args.self.now c.in-Announce.prefix c.in-Announce.path)
