use Rattle.std.proofs.Common.{◌≡◌, ℕ, ◌+◌, ◌≤◌, None, Some, List, length, take_all, sym, ap, subst, ◌∙◌}
use Rattle.std.specs.Prelude.{slice_get}
use Rattle.std.specs.FinMap as map
use Rattle.std.specs.Ordering.{nat_cmp}
use Rattle.net_names.specs.Numbers.{occurs}
use Rattle.stability_laws.specs.Plans.{leakers_of}
use Rattle.stability_laws.proofs.Listing.{found_at}
use Rattle.stability_laws.proofs.Leaking.{leaked_more}
use Rattle.table_check.specs.Rows.{held_by}
use Rattle.table_check.proofs.Leakers.{given, given_again}
use Rattle.table_check.proofs.seeds.held_by_leakers.Goals as goal

pub leakers-init : goal.leakers-init
leakers-init c = λ a. ap (λ m. map.get m a) c.new-routing.ensures ∙ map.get-empty nat_cmp a

pub leakers-preserved : goal.leakers-preserved
leakers-preserved c =
    let xs = leakers_of c.args.plan.now (c.args.before + 1) in
    let at : slice_get xs c.leakers.asn-index ≡ Some c.asn-item.result = found_at c.leakers-asn-items.result.now xs c.leakers.asn-index c.asn-item.result c.leakers-asn-items.ensures.value c.leakers-test.true c.asn-item.is in
    leaked_more given given_again (λ a. None) (map.get c.leakers.routing) (map.get c.put_held.new.routing) (held_by c.args.table.now c.args.before) xs c.leakers.asn-index c.asn-item.result at c.leakers.invariant c.in_ok-put_held.ensures.this c.in_ok-put_held.ensures.others

pub returns : goal.returns
returns c = λ a.
    let xs = leakers_of c.args.plan.now (c.args.before + 1) in
    let end = c.leakers.asn-index in
    let past : length xs ≤ end = subst (λ (ys : List ℕ). length ys ≤ end) c.leakers-asn-items.ensures.value c.leakers-test.false in
    c.leakers.invariant a
    ∙ ap (λ b. given None b (held_by c.args.table.now c.args.before a)) (ap (occurs a) (take_all end xs past ∙ sym c.leakers-asn-items.ensures.value) ∙ c.leakers-asn-items.ensures.who a)
