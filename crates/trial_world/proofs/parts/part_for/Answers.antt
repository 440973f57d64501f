use Rattle.std.proofs.Common.{◌∙◌, ap}
use Rattle.std.specs.FinMap as fin
use Rattle.stability_laws.specs.Plans.{Plan, leaks_in}
use Rattle.trial_world.proofs.PartPlans.{leaks_none, or_none, part_kept, part_small}
use Rattle.trial_world.proofs.parts.part_for.Goals as goal

pub returns-clause-part : goal.returns-clause-part
returns-clause-part c = record {
  is_part = part_kept c.args.addr c.args.whole.now c.announce_holding.new.part c.leak_to.new.part c.leak_to.ensures.announced c.leak_to.ensures.prefixes c.in_ok-announce_holding.ensures.part;
  announced = λ p a held. ap (λ m. fin.get m (p, a)) c.leak_to.ensures.announced ∙ c.in_ok-announce_holding.ensures.there p a held;
  leaks = λ r a low high. c.in_ok-leak_to.ensures.leaks r a low high
      ∙ or_none (leaks_in c.args.whole.now r a) (leaks_none c.announce_holding.new.part (c.announce_holding.ensures.leakers ∙ ap (λ (p : Plan). p.leakers) c.new-part.ensures) r a);
}

pub returns-clause-small : goal.returns-clause-small
returns-clause-small c = part_small c.args.addr c.args.whole.now c.leak_to.new.part
    (part_kept c.args.addr c.args.whole.now c.announce_holding.new.part c.leak_to.new.part c.leak_to.ensures.announced c.leak_to.ensures.prefixes c.in_ok-announce_holding.ensures.part) c.requires.small
