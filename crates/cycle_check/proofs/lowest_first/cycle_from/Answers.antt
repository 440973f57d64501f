use Rattle.std.proofs.Common.{arith, length, ap}
use Rattle.std.proofs.lemmas.List.{take_rest, length-drop}
use Rattle.cycle_check.proofs.Places.{place_less}
use Rattle.cycle_check.proofs.lowest_first.cycle_from.Goals as goal

pub turned-requires : goal.turned-requires
turned-requires c =
    let xs = c.args.way.now in
    let place = c.place_of-place.result in
    let at = c.place_of-place.ensures.place in
    let less = place_less xs c.args.number c.requires in
    omega (arith, less, at, ap length (take_rest xs place), length-drop place xs)
