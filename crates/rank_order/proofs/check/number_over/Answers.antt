use Rattle.std.proofs.Common.{◌≡◌, ap, ◌∙◌}
use Rattle.std.proofs.lemmas.List.{get_or_default}
use Rattle.as_graph.specs.declared.neighbour.Neighbour.{Neighbour}
use Rattle.as_graph.specs.Rows.{blank}
use Rattle.rank_order.specs.Plans.{rank_after}
use Rattle.rank_order.specs.Mending.{neighbour_at, grown}
use Rattle.rank_order.proofs.Mended.{number_more}
use Rattle.rank_order.proofs.check.number_over.Goals as goal

pub loop-at-preserved : goal.loop-at-preserved
loop-at-preserved c =
    let ns = c.args.neighbours.now in
    let i = c.loop-at.at in
    let number = rank_after c.args.ranks.now c.args.plan.now in
    let here : c.index-neighbours-at.result ≡ neighbour_at ns i = c.index-neighbours-at.is ∙ get_or_default ns i c.index-neighbours-at.result blank c.loop-at-test.true in (
      number_more number ns i c.loop-at.number c.with_neighbour-number.result c.loop-at-test.true (c.with_neighbour-number.ensures.grown ∙ ap (λ (x : Neighbour). grown x.rel (number x.asn) c.loop-at.number) here) c.loop-at.invariant.0,
      c.with_neighbour-number.ensures.few,
    )
