use Rattle.std.proofs.Common.{rules, ◌≡◌, inl, inr, ◌<◌, true, length, get_or, sym, ap, subst, arith, ◌∙◌}
use Rattle.std.proofs.lemmas.Bool.{cases_eq}
use Rattle.std.proofs.lemmas.List.{get_or_default}
use Rattle.as_graph.specs.Topology.{relation, has}
use Rattle.cycle_check.proofs.Listing.{occurs_index}
use Rattle.rank_order.specs.Ranks.{rank_at}
use Rattle.rank_order.specs.Plans.{is_numbered, rank_after}
use Rattle.rank_order.specs.Mending.{IsMended}
use Rattle.rank_order.proofs.check.are_mended.Goals as goal

pub loop-at-preserved : goal.loop-at-preserved
loop-at-preserved c = λ k low.
    let ases = c.args.plan.now.ases.items in
    let at = c.loop-at.at in
    let len : c.len-at-end.result ≡ length c.args.plan.now.ases.items = search rules in
    let inside : at < length ases = omega (arith, len, c.loop-at-test.true) in
    elim (cases_eq k at) [
      | inl e ↦ (
          let here : c.index.result.now ≡ get_or ases k 0 = c.index.ensures ∙ get_or_default ases at c.index.result.now 0 inside ∙ ap (λ j. get_or ases j 0) (sym e) in
          subst (λ a. (has c.args.graph.now a ≡ true) × IsMended (relation c.args.graph.now) (is_numbered c.args.plan.now) (rank_at c.args.ranks.now) (rank_after c.args.ranks.now c.args.plan.now) a) here
          (c.is_mended.ensures.inside c.if-not-is_mended.false, c.is_mended.ensures.mended c.if-not-is_mended.false))
      | inr ne ↦ c.loop-at.invariant k (omega (arith, low, ne))
    ]

pub returns-clause-inside : goal.returns-clause-inside
returns-clause-inside c = λ _ a numbered.
    let len : c.len-at-end.result ≡ length c.args.plan.now.ases.items = search rules in
    let (j, less, is) = occurs_index a c.args.plan.now.ases.items numbered in
    subst (λ t. has c.args.graph.now t ≡ true) is (c.loop-at.invariant j (omega (arith, less, len, c.loop-at-test.false))).0

pub returns-clause-mended : goal.returns-clause-mended
returns-clause-mended c = λ _ a numbered.
    let len : c.len-at-end.result ≡ length c.args.plan.now.ases.items = search rules in
    let (j, less, is) = occurs_index a c.args.plan.now.ases.items numbered in
    subst (IsMended (relation c.args.graph.now) (is_numbered c.args.plan.now) (rank_at c.args.ranks.now) (rank_after c.args.ranks.now c.args.plan.now)) is
    (c.loop-at.invariant j (omega (arith, less, len, c.loop-at-test.false))).1
