use Rattle.std.proofs.Common.{◌||◌, ◌∙◌, unwrap_or, refl, sym, ap}
use Rattle.std.specs.FinMap as fin
use Rattle.net_names.specs.Numbers.{occurs}
use Rattle.leak_round.specs.Rounds.{plan_of}
use Rattle.stability_laws.specs.Plans.{Plan, announcers_of}
use Rattle.stability_laws.specs.SeedEdits.{edit_asn, edited, without_announcement}
use Rattle.stability_laws.specs.declared.seed_plan.edits.SeedEdit.{SeedEdit}
use Rattle.sim_core.proofs.PolicyEdits.{leakers}
use Rattle.sim_core.proofs.Reseeded.{announced_named}
use Rattle.sim_core.proofs.SeedMarks.{named_is}
use Rattle.sim_core.proofs.Unnamed.{is_named}
use Rattle.sim_core.proofs.parts.Parts.is_named_after.Goals as goal

pub returns-in-Announce : goal.returns-in-Announce
returns-in-Announce c =
    let s = c.args.self.now in
    sym (announced_named (edited (plan_of s.rounds) c.args.edit.now) s.book.named c.in-Announce.prefix c.in-Announce.path c.args.asn (plan_of s.rounds) c.args.edit.now c.in-Announce.is refl c.requires)

pub returns-in-Withdraw : goal.returns-in-Withdraw
returns-in-Withdraw c =
    let s = c.args.self.now in
    let a = c.args.asn in
    named_is (without_announcement (plan_of s.rounds) c.in-Withdraw.prefix a) s.book.named a c.kind_of.result c.names_without-by_plan.result c.is_other.result s.other
    (c.names_without-by_plan.ensures ∙ ap (λ (p : Plan). occurs a (announcers_of (without_announcement p c.in-Withdraw.prefix a)) || occurs a (leakers p)) c.seed_plan.ensures)
    (c.kind_of.ensures ∙ ap (unwrap_or (fin.get s.book.named a)) s.plain) (c.is_other.ensures a)
    ∙ ap (λ x. is_named (without_announcement (plan_of s.rounds) c.in-Withdraw.prefix x) s.book.named a) (c.requires ∙ ap edit_asn c.in-Withdraw.is)
    ∙ ap (λ (e : SeedEdit). is_named (edited (plan_of s.rounds) e) s.book.named a) (sym c.in-Withdraw.is)
