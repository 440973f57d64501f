use Rattle.std.proofs.Common.{◌≡◌, None, option_map, ap, refl, subst, sym}
use Rattle.route_choice.specs.Routings.{entry_of}
use Rattle.dirty_recompute.specs.Steps.{after, without_low}
use Rattle.dirty_recompute.proofs.stepping.stays.Goals as goal

pub returns-in-Up-clause-stays : goal.returns-in-Up-clause-stays
returns-in-Up-clause-stays c = λ yes p.
    let held = option_map (entry_of p) c.args.held.now in
    subst (λ part. after part None held ≡ held) (sym c.in-Up.is) (ap (λ x. without_low x held) (c.is_high.ensures.stays yes p))

pub returns-in-Up-clause-goes : goal.returns-in-Up-clause-goes
returns-in-Up-clause-goes c = λ no p. subst (λ part. after part None (option_map (entry_of p) c.args.held.now) ≡ None) (sym c.in-Up.is) (c.is_high.ensures.goes no p)

pub returns-in-Whole-clause-goes : goal.returns-in-Whole-clause-goes
returns-in-Whole-clause-goes c = λ no p. subst (λ part. after part None (option_map (entry_of p) c.args.held.now) ≡ None) (sym c.in-Whole.is) refl
