use Rattle.std.proofs.Common.{◌∙◌, ap, sym, Some}
use Rattle.stability_laws.specs.Plans.{announces}
use Rattle.trial_world.proofs.PartPlans.{first_is, here_now, on_ok, part_more, some_numbers, still_announced}
use Rattle.trial_world.proofs.parts.announce_at.Goals as goal

pub announce-requires-clause-some : goal.announce-requires-clause-some
announce-requires-clause-some c = some_numbers c.args.whole.now c.args.prefix c.args.asn c.in_ok-copy-in-Some.copy c.in-Some.ensures.sound (sym c.in-Some.ensures.value ∙ ap Some (sym c.in_ok-copy-in-Some.ensures))

pub announce-requires-clause-new : goal.announce-requires-clause-new
announce-requires-clause-new c =
    ap (announces c.args.part.now c.args.prefix) (first_is c.args.whole.now c.args.prefix c.args.asn c.in_ok-copy-in-Some.copy c.in-Some.ensures.sound (sym c.in-Some.ensures.value ∙ ap Some (sym c.in_ok-copy-in-Some.ensures)))
    ∙ sym c.announces.ensures.value ∙ c.if-announces.false

pub returns-in_ok-copy-in-Some-clause-grown : goal.returns-in_ok-copy-in-Some-clause-grown
returns-in_ok-copy-in-Some-clause-grown c =
    let at = sym c.in-Some.ensures.value ∙ ap Some (sym c.in_ok-copy-in-Some.ensures) in
    on_ok c.announce.result (λ is. record {
      part = part_more c.args.whole.now c.args.part.now c.announce.new.self c.args.prefix c.args.asn c.in_ok-copy-in-Some.copy c.in-Some.ensures.sound at is;
      more = still_announced c.args.whole.now c.args.part.now c.announce.new.self c.args.prefix c.args.asn c.in_ok-copy-in-Some.copy c.in-Some.ensures.sound at is;
    }) c.announce.ensures.ok

pub returns-in_ok-copy-in-Some-clause-there : goal.returns-in_ok-copy-in-Some-clause-there
returns-in_ok-copy-in-Some-clause-there c = on_ok c.announce.result (λ is addr held old.
    here_now c.args.whole.now c.args.part.now c.announce.new.self c.args.prefix c.args.asn c.in_ok-copy-in-Some.copy c.in-Some.ensures.sound (sym c.in-Some.ensures.value ∙ ap Some (sym c.in_ok-copy-in-Some.ensures)) is) c.announce.ensures.ok
