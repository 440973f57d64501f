use Rattle.std.proofs.Common.{◌≡◌, ℕ, ◌≤◌, Some, List, length, take_all, sym, ap, subst, ◌∙◌, arith}
use Rattle.std.specs.Prelude.{slice_get}
use Rattle.std.specs.FinMap as map
use Rattle.net_names.specs.Numbers.{occurs}
use Rattle.stability_laws.specs.Plans.{leakers_of}
use Rattle.stability_laws.specs.Seeding.{own_or_leaked}
use Rattle.stability_laws.proofs.Listing.{found_at}
use Rattle.stability_laws.proofs.Leaking.{leaked_more}
use Rattle.stability_laws.proofs.PlanListings.{occurs_in_round}
use Rattle.stability_laws.proofs.RoundSeeds.{leaked_again}
use Rattle.stability_laws.proofs.round_seeds.leak_all.Goals as goal

pub leakers-preserved : goal.leakers-preserved
leakers-preserved c =
    let xs = leakers_of c.args.plan.now c.args.round in
    let at : slice_get xs c.leakers.asn-index ≡ Some c.asn-item.result = found_at c.leakers-asn-items.result.now xs c.leakers.asn-index c.asn-item.result c.leakers-asn-items.ensures.value c.leakers-test.true c.asn-item.is in
    leaked_more own_or_leaked leaked_again (map.get c.args.seeds.now) (map.get c.leakers.seeds) (map.get c.leak.new.seeds) (map.get c.args.before.now) xs c.leakers.asn-index c.asn-item.result at c.leakers.invariant c.in_ok-leak.ensures.this c.in_ok-leak.ensures.others

pub returns : goal.returns
returns c = λ a.
    let xs = leakers_of c.args.plan.now c.args.round in
    let end = c.leakers.asn-index in
    let past : length xs ≤ end = subst (λ (ys : List ℕ). length ys ≤ end) c.leakers-asn-items.ensures.value c.leakers-test.false in
    c.leakers.invariant a
    ∙ ap (λ b. own_or_leaked (map.get c.args.seeds.now a) b (map.get c.args.before.now a)) (ap (occurs a) (take_all end xs past) ∙ occurs_in_round c.args.plan.now c.args.round a)
