use Rattle.std.proofs.Common.{sym, subst}
use Rattle.std.specs.Prelude.{IsTrue}
use Rattle.three_pass.specs.Stances.{IsStanceUnder}
use Rattle.three_pass.proofs.StanceLemmas.{lowered_is}
use Rattle.three_pass.proofs.stances.stance_under.Goals as goal

pub returns : goal.returns
returns g c =
    let p = g.P.RoutePolicy.meaning c.args.policy.now in
    subst (IsStanceUnder p c.args.all (IsTrue c.args.above)) (sym c.lowered.ensures) (lowered_is p c.args.all c.stance.result c.args.above c.stance.ensures)
