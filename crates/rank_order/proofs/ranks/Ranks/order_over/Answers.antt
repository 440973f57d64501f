use Rattle.std.proofs.Common.{◌≡◌, ℕ, get_or, ap, sym, arith, ◌∙◌}
use Rattle.std.specs.Cmp.Lexicographic.{same_text}
use Rattle.net_names.specs.Numbers.{occurs}
use Rattle.cycle_check.specs.Providers.{rank_by as rank_by_place}
use Rattle.rank_order.specs.Ranks.{KeptRanks, rank_by, rank_at}
use Rattle.rank_order.proofs.Kept.{rank_kept}
use Rattle.rank_order.proofs.ranks.Ranks.order_over.Goals as goal

pub returns-then-eq : goal.returns-then-eq
returns-then-eq c =
    let inside = c.self.inside in
    let ases = inside.ases.items in
    let ranks = inside.ranks.items in
    let order = inside.order.ases.items in
    let same : ases ≡ c.args.ases.now = sym c.as_slice.ensures.value ∙ same_text c.as_slice.result.now c.args.ases.now (sym c.if-eq.true ∙ c.eq.ensures) in
    let at : (a : ℕ) → rank_at c.args.self.now a ≡ rank_by_place ases ranks a = λ a. (ap (λ (r : KeptRanks). rank_by r.by_as a) (sym c.self.view_is) ∙ rank_kept ases ranks inside.each a) in
    let by_rank = inside.by_rank c.if-self.true in
    record {
      order = record {
        complete = λ a. by_rank.complete a ∙ ap (occurs a) same;
        apart = by_rank.apart;
        rising = λ i j d le less. (
            let rises = by_rank.rising i j d le less in
            omega (arith, rises, at (get_or order i d), at (get_or order j d)));
      };
    }
