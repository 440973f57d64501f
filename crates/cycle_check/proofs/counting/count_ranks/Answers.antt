use Rattle.std.proofs.Common.{◌≡◌, ℕ, ◌<◌, [], length, get_or, sym, ap, subst, arith, ◌∙◌}
use Rattle.std.proofs.lemmas.List.{take_at}
use Rattle.cycle_check.specs.Rows.{row, count_of}
use Rattle.cycle_check.specs.Stages.{waiting, AreFree, IsStage}
use Rattle.cycle_check.specs.Ways.{AllLeftBelow}
use Rattle.cycle_check.specs.Counting.{ArePlaceRanks}
use Rattle.cycle_check.proofs.Regions.{waiting_all, row_inside}
use Rattle.cycle_check.proofs.Stages.{zeros, length-zeros, first_stage, left_below, ranks_fit, order_complete}
use Rattle.cycle_check.proofs.counting.count_ranks.Goals as goal

pub give_ranks-requires-clause-stage : goal.give_ranks-requires-clause-stage
give_ranks-requires-clause-stage c =
    let starts = c.args.starts.now in
    let items = c.args.items.now in
    let rows = row starts items in
    let n = count_of starts in
    let counts = c.tally.new.counts in
    let order = c.in_ok-order.order.items in
    let each : length counts ≡ n = omega (arith, c.tally.auto.counts, ap length c.deref_mut.ensures.value, ap length c.in_ok-counts.ensures, length-zeros n) in
    let filled : length counts ≡ c.in_ok-counts.counts.len = omega (arith, c.tally.auto.counts, c.deref_mut.ensures.len) in
    let counts_are : c.deref_mut-2.result.now ≡ counts = c.deref_mut-2.ensures.value ∙ take_at counts _ c.in_ok-counts.counts.len filled in
    let seen_are : c.deref.result.now ≡ counts = c.deref.ensures.value ∙ take_at counts _ c.in_ok-counts.counts.len filled in
    let ranks_are : c.deref_mut-3.result.now ≡ zeros n = c.deref_mut-3.ensures.value ∙ c.in_ok-ranks.ensures in
    let free : AreFree counts order n = subst (λ k. AreFree counts order k) each (subst (λ xs. AreFree xs order (length xs)) seen_are c.in_ok-order.ensures) in
    let counted : (p : ℕ) → p < n → get_or counts p 0 ≡ waiting rows [] p n = λ p less. (c.tally.ensures p (omega (arith, less, each, c.tally.auto.counts)) ∙ waiting_all starts items c.requires p) in
    subst (λ xs. IsStage rows n xs c.deref_mut-3.result.now order [] []) (sym counts_are) (subst (λ xs. IsStage rows n counts xs order [] []) (sym ranks_are) (first_stage rows n counts order counted free))

pub cycle_below-requires-clause-below : goal.cycle_below-requires-clause-below
cycle_below-requires-clause-below c =
    let rows = row c.args.starts.now c.args.items.now in
    let n = count_of c.args.starts.now in
    let counts = c.give_ranks.new.counts in
    let filled : length counts ≡ c.in_ok-counts.counts.len = omega (arith, c.give_ranks.auto.counts, c.deref_mut-2.ensures.len) in
    let are : c.deref-then-left-count.result.now ≡ counts = c.deref-then-left-count.ensures.value ∙ take_at counts _ c.in_ok-counts.counts.len filled in
    subst (AllLeftBelow rows n) (sym are) (left_below rows n counts c.give_ranks.new.ranks c.give_ranks.new.order.items c.in_ok-give_ranks.ensures)

pub returns : goal.returns
returns c =
    let starts = c.args.starts.now in
    let items = c.args.items.now in
    let rows = row starts items in
    let n = count_of starts in
    let counts = c.give_ranks.new.counts in
    let ranks = c.give_ranks.new.ranks in
    let order = c.give_ranks.new.order.items in
    let stage = c.in_ok-give_ranks.ensures in
    let filled : length counts ≡ c.in_ok-counts.counts.len = omega (arith, c.give_ranks.auto.counts, c.deref_mut-2.ensures.len) in
    let are : c.deref-2.result.now ≡ counts = c.deref-2.ensures.value ∙ take_at counts _ c.in_ok-counts.counts.len filled in
    let each : length counts ≡ n = omega (arith, filled, c.deref_mut.ensures.len, ap length c.deref_mut.ensures.value, ap length c.in_ok-counts.ensures, length-zeros n) in
    let all : (p : ℕ) → p < n → get_or counts p 0 ≡ 0 = λ p less. (
    let of = ap length are in
    let none = c.first_left-left.ensures.all (omega (arith, c.if-left-count.false, of, each)) p (omega (arith, less, of, each)) in
    subst (λ xs. get_or xs p 0 ≡ 0) are none) in
    let within = row_inside starts items c.requires in
    let fits = ranks_fit rows n counts ranks order stage all within in
    let full : length ranks ≡ c.in_ok-ranks.ranks.len = omega (arith, c.give_ranks.auto.ranks, c.deref_mut-3.ensures.len) in
    let given = take_at ranks _ c.in_ok-ranks.ranks.len full in
    subst (λ xs. ArePlaceRanks starts items xs order) (sym given) (record {
      fits = fits;
      each = omega (arith, full, c.deref_mut-3.ensures.len, ap length c.deref_mut-3.ensures.value, ap length c.in_ok-ranks.ensures, length-zeros n);
      by_rank = record {
        complete = order_complete rows n counts ranks order stage all within;
        apart = stage.apart;
        rising = stage.rising;
      };
    })
