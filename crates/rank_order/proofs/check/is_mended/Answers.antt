use Rattle.std.proofs.Common.{inl, inr, length, sym, subst, ◌∙◌}
use Rattle.as_graph.specs.Topology.{relation}
use Rattle.rank_order.specs.Ranks.{rank_at}
use Rattle.rank_order.specs.Plans.{is_numbered, rank_after}
use Rattle.rank_order.specs.Mending.{AllBear}
use Rattle.rank_order.proofs.Mended.{fits_over, bear_over}
use Rattle.rank_order.proofs.check.is_mended.Goals as goal

pub returns-then-before-later-clause-mended : goal.returns-then-before-later-clause-mended
returns-then-before-later-clause-mended c = λ _. record {
  fits =
      fits_over (relation c.args.graph.now) (rank_after c.args.ranks.now c.args.plan.now) c.args.asn c.number_over-number.result c.neighbours_near-neighbours.result.now c.neighbours_near-neighbours.ensures
      c.number_over-number.ensures (sym c.rank-later.ensures ∙ sym c.from.ensures ∙ sym c.if-number-from.false);
  providers = inl (sym c.rank-later.ensures ∙ sym c.if-before-later.true ∙ c.rank-before.ensures);
}

pub returns-else-before-later-clause-mended : goal.returns-else-before-later-clause-mended
returns-else-before-later-clause-mended c = λ t.
    let numbered = is_numbered c.args.plan.now in
    let old = rank_at c.args.ranks.now in
    let new = rank_after c.args.ranks.now c.args.plan.now in
    let ns = c.neighbours_near-neighbours.result.now in
    let a = c.args.asn in
    record {
      fits = fits_over (relation c.args.graph.now) new a c.number_over-number.result ns c.neighbours_near-neighbours.ensures c.number_over-number.ensures (sym c.rank-later.ensures ∙ sym c.from.ensures ∙ sym c.if-number-from.false);
      providers =
          inr
          (bear_over c.args.graph.now c.links_are_sound.ensures numbered old (old a) (new a) a ns c.neighbours_near-neighbours.ensures
          (subst (λ b. AllBear numbered old b (new a) ns (length ns)) c.rank-before.ensures (subst (λ l. AllBear numbered old c.rank-before.result l ns (length ns)) c.rank-later.ensures (c.all_bear.ensures t))));
    }
