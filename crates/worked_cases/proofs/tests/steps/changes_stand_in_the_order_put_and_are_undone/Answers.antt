use Rattle.std.proofs.Common.{arith, None}
use Rattle.route_choice.specs.declared.held.Held.{Held}
use Rattle.net_names.specs.declared.routes.Class.TheVariants as class
use Rattle.route_choice.proofs.Lists.{one_use}
use Rattle.worked_cases.proofs.tests.steps.changes_stand_in_the_order_put_and_are_undone.Goals as goal

pub undo-requires : goal.undo-requires
undo-requires g c = λ k.
    let held : Held = record { class = class.Origin; path = c.cons.result; otc = None } in
    omega (
      arith,
      c.put-2.ensures.uses k,
      c.put.ensures.uses k,
      c.in_ok-room.ensures.uses k,
      c.new-overlay.ensures.uses k,
      one_use c.cons.new.self held k (omega (arith, c.cons.ensures.made.one_hold)),
    )
