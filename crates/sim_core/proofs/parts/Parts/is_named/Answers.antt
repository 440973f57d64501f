use Rattle.std.proofs.Common.{◌||◌, ◌∙◌, unwrap_or, ap}
use Rattle.std.specs.FinMap as fin
use Rattle.net_names.specs.Numbers.{occurs}
use Rattle.leak_round.specs.Rounds.{plan_of}
use Rattle.stability_laws.specs.Plans.{Plan, announcers_of}
use Rattle.sim_core.proofs.PolicyEdits.{leakers}
use Rattle.sim_core.proofs.SeedMarks.{named_is}
use Rattle.sim_core.proofs.parts.Parts.is_named.Goals as goal

pub returns : goal.returns
returns c =
    let s = c.args.self.now in
    let a = c.args.asn in
    named_is (plan_of s.rounds) s.book.named a c.kind_of.result c.names-by_plan.result c.is_other.result s.other
    (c.names-by_plan.ensures ∙ ap (λ (p : Plan). occurs a (announcers_of p) || occurs a (leakers p)) c.seed_plan.ensures)
    (c.kind_of.ensures ∙ ap (unwrap_or (fin.get s.book.named a)) s.plain) (c.is_other.ensures a)
