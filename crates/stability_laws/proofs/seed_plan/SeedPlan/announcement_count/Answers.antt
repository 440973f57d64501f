use Rattle.std.proofs.Common.{◌≡◌, ◌∙◌, length, arith}
use Rattle.stability_laws.proofs.PlanReads.{announcement_count}
use Rattle.stability_laws.proofs.seed_plan.SeedPlan.announcement_count.Goals as goal

pub returns : goal.returns
returns c =
    let many : c.len.result ≡ length c.self.inside.announced.items = omega (arith, c.len.ensures, c.self.inside.announced.ok.0) in
    many ∙ announcement_count c.self.inside.prefixes.items c.self.inside.announced.items c.self.inside.announcers.items c.self.inside.leakers.items c.self.inside.leaking.items c.self.invariant c.args.self.now c.self.view_is
