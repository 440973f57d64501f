use Rattle.std.proofs.Common.{arith, ap}
use Rattle.std.specs.Prelude.{unwrap_or, None}
use Rattle.route_choice.specs.Slots.{use_of}
use Rattle.dirty_recompute.proofs.giving.take_away.Goals as goal

pub returns-clause-uses : goal.returns-clause-uses
returns-clause-uses c = λ k.
    omega (
      arith,
      c.exchange_near.ensures.uses k,
      ap (use_of k) c.exchange_near.ensures.old,
      ap (λ o. use_of k (unwrap_or o None)) (c.in_ok-room_over.ensures.same c.args.asn),
      ap (λ o. use_of k (unwrap_or o None)) (c.requires.fresh c.in-Some.field-0 c.in-Some.is),
      c.in_ok-room_over.ensures.uses k,
    )
