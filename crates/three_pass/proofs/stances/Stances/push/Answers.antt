use Rattle.three_pass.specs.declared.stances.Stances.{Stances}
use Rattle.three_pass.specs.Stances.{IsStanceMore, stances_of}
use Rattle.three_pass.proofs.StanceLemmas.{in_each}
use Rattle.three_pass.proofs.stances.Stances.push.Goals as goal

pub returns : goal.returns
returns g c =
    let new : Stances = record { not_found = c.push.new.self; valid = c.push-2.new.self; invalid = c.push-3.new.self; any = c.push-4.new.self } in
    in_each (λ all. IsStanceMore (g.P.RoutePolicy.meaning c.args.policy.now) c.args.above all (stances_of c.args.self.now all) (stances_of new all))
    (c.stance_under-not_found.result, (c.in_ok-push.ensures.items, c.stance_under-not_found.ensures))
    (c.stance_under-valid.result, (c.in_ok-push-2.ensures.items, c.stance_under-valid.ensures))
    (c.stance_under-invalid.result, (c.in_ok-push-3.ensures.items, c.stance_under-invalid.ensures))
    (c.stance_under-any.result, (c.in_ok-push-4.ensures.items, c.stance_under-any.ensures))
