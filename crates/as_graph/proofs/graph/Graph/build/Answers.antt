use Rattle.std.proofs.Common.{◌≤◌, ◌≡◌, ℕ, length, None, Some, arith}
use Rattle.as_graph.specs.Topology.{unmarked}
use Rattle.as_graph.proofs.Building.{topology_of-built, kept-built}
use Rattle.as_graph.proofs.Kept.{counted_read}
use Rattle.as_graph.proofs.graph.Graph.build.Goals as goal

pub invariant_of-result : goal.invariant_of-result
invariant_of-result c = (
  kept-built c.in_ok-rows.rows c.args.links.now c.in_ok-order.order.items c.len.result c.in_ok-rows.ensures.built c.in_ok-order.ensures.listed c.in_ok-order.ensures.rising
      (omega (arith, c.in_ok-order.ensures.len, c.in_ok-rows.ensures.few)) c.len.ensures.value c.len.ensures.few,
  record { ordered = (let fits = c.in_ok-order.order.ok in let same = c.in_ok-order.ensures.len in omega (arith, fits.0, fits.1, same)); paired = λ a b no. absurd (not_some (a, b) no) },
)
  where
    not_some : (p : ℕ × ℕ) → None ≡ Some p → ⊥
    not_some p e = cc

pub returns-clause-ok : goal.returns-clause-ok
returns-clause-ok c = topology_of-built c.in_ok-rows.rows c.args.links.now c.in_ok-rows.ensures.built

pub returns-clause-few : goal.returns-clause-few
returns-clause-few c =
    let few : length c.in_ok-order.order.items ≤ 150000 = omega (arith, c.in_ok-order.ensures.len, c.in_ok-rows.ensures.few) in
    let kept = kept-built c.in_ok-rows.rows c.args.links.now c.in_ok-order.order.items c.len.result c.in_ok-rows.ensures.built c.in_ok-order.ensures.listed c.in_ok-order.ensures.rising few c.len.ensures.value c.len.ensures.few in
    omega (arith, few, counted_read c.in_ok-rows.rows c.in_ok-order.order.items c.len.result kept (unmarked c.args.links.now) None (topology_of-built c.in_ok-rows.rows c.args.links.now c.in_ok-rows.ensures.built))
