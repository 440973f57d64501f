use Rattle.std.proofs.Common.{◌≡◌, true, sym, subst, arith}
use Rattle.as_graph.specs.Topology.{has}
use Rattle.cycle_check.proofs.Listing.{occurs_index}
use Rattle.rank_order.specs.Plans.{is_numbered}
use Rattle.rank_order.proofs.check.has_all.Goals as goal

pub returns : goal.returns
returns c = λ _ a o there.
    let (j, less, is) = occurs_index a c.args.ends.now o in
    subst (λ t. is_numbered c.args.plan.now t ≡ true) is (c.loop-at.invariant j (omega (arith, less, c.loop-at-test.false)) (subst (λ t. has c.args.graph.now t ≡ true) (sym is) there))
