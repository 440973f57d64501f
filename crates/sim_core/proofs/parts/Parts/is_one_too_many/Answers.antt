use Rattle.std.proofs.Common.{◌≡◌, ◌∙◌, not, sym, ap}
use Rattle.std.specs.FinMap as fin
use Rattle.leak_round.specs.Rounds.{plan_of}
use Rattle.stability_laws.specs.Plans.{Plan, announcer_of, announces}
use Rattle.stability_laws.proofs.PlanEdits.{announcer_is}
use Rattle.sim_core.proofs.SeedEdits.{no_more, one_more}
use Rattle.sim_core.proofs.parts.Parts.is_one_too_many.Goals as goal

pub returns-then-not-known : goal.returns-then-not-known
returns-then-not-known c =
    let plan = plan_of c.args.self.now.rounds in
    let first = announcer_is c.args.path.now c.as_slice.result.now c.index-as_slice-0.result c.requires c.as_slice.ensures c.index-as_slice-0.is in
    let known : c.announces-known.result ≡ announces plan c.args.prefix (announcer_of c.args.path.now) = c.announces-known.ensures.value ∙ (λ i. announces (c.seed_plan-plan.ensures i) c.args.prefix (first i)) in
    one_more plan c.args.prefix c.args.path.now c.announcement_count.result (sym known ∙ c.if-not-known.true) (c.announcement_count.ensures ∙ ap (λ (p : Plan). fin.len p.announced) c.seed_plan-plan.ensures)

pub returns-else-not-known : goal.returns-else-not-known
returns-else-not-known c =
    let plan = plan_of c.args.self.now.rounds in
    let first = announcer_is c.args.path.now c.as_slice.result.now c.index-as_slice-0.result c.requires c.as_slice.ensures c.index-as_slice-0.is in
    let known : c.announces-known.result ≡ announces plan c.args.prefix (announcer_of c.args.path.now) = c.announces-known.ensures.value ∙ (λ i. announces (c.seed_plan-plan.ensures i) c.args.prefix (first i)) in
    ap not c.if-not-known.false ∙ no_more plan c.args.prefix c.args.path.now (sym known ∙ c.if-not-known.false) c.args.self.now.small.announcements
