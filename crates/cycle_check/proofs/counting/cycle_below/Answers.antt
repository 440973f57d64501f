use Rattle.std.proofs.Common.{ℕ, List, Some, None, cond, drop, ap, subst}
use Rattle.net_names.specs.declared.routes.Rel.TheVariants.{Customer}
use Rattle.cycle_check.specs.Rows.{relation}
use Rattle.cycle_check.specs.Cycles.{IsTurned}
use Rattle.cycle_check.specs.Places.{place_in}
use Rattle.cycle_check.proofs.Turning.{stretch_cycle, turned_cycle}
use Rattle.cycle_check.proofs.counting.cycle_below.Goals as goal

pub returns : goal.returns
returns c =
    let w = relation c.args.starts.now c.args.items.now in
    let path = c.in_ok-way.way.places.items in
    let a = c.in_ok-way.way.back in
    let back = c.in_ok-way.ensures in
    let turned = subst (λ (p : List ℕ). IsTurned (drop (place_in p a) p) c.in_ok-cycle_from.field-0.items) c.deref.ensures.value c.in_ok-cycle_from.ensures in
    turned_cycle w (drop (place_in path a) path) _ (stretch_cycle w (λ x. ap (λ t. cond t (Some Customer) None) (c.requires.rows.apart x)) a path back.descends back.distinct back.on_way back.back) turned
