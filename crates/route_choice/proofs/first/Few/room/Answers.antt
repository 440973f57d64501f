use Rattle.std.proofs.Common.{◌≡◌, true, false, arith}
use Rattle.indexmap.specs.IndexMap.{spare}
use Rattle.route_choice.proofs.first.Few.room.Goals as goal

pub returns-in_err-reserve-clause-succeeds : goal.returns-in_err-reserve-clause-succeeds
returns-in_err-reserve-clause-succeeds c = λ fits.
    let done : false ≡ true = c.in_err-reserve.ensures.succeeds (c.left_for-left.ensures.least (spare c.args.self.now.others) (omega (arith, fits))) in
    cc
