use Rattle.std.proofs.Common.{◌≡◌, ◌+◌, inl, inr, ℕ, suc, subst, arith}
use Rattle.std.proofs.lemmas.Bool.{cases_eq}
use Rattle.leak_round.specs.Rounds.{kept}
use Rattle.leak_round.specs.Staying.{StaysRightIn}
use Rattle.leak_round.proofs.ends.stays_in_rounds.Goals as goal

pub loop-past-preserved : goal.loop-past-preserved
loop-past-preserved g c = λ before low.
    let past = c.loop-past.past in
    elim (cases_eq before past) [
      | inl e ↦ (let next : past + 1 ≡ suc before = omega (arith, e) in
          subst (λ (r : ℕ). StaysRightIn g.P.RoutePolicy.meaning g.V.OriginStates.state_of c.args.world.now c.args.prefix (kept c.args.rounds.now r c.args.prefix) c.args.asn c.args.end) next (c.stays_in_round.ensures c.if-not-stays_in_round.false))
      | inr ne ↦ c.loop-past.invariant before (omega (arith, low, ne))
    ]
