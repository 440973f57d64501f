use Rattle.std.proofs.Common.{◌≡◌, ℕ, ◌<◌, List, length, map, get_or, ap, sym, subst, arith, ◌∙◌}
use Rattle.std.proofs.lemmas.Bool.{ltb-true}
use Rattle.std.proofs.lemmas.List.{length-map}
use Rattle.std.specs.FinMap as map_of
use Rattle.std.specs.List.Sorted.{IsStrictlyIncreasing}
use Rattle.net_names.specs.Numbers.{occurs}
use Rattle.cycle_check.specs.declared.ranking.RankedAs.{RankedAs}
use Rattle.cycle_check.specs.Counting.{ArePlacesByRank}
use Rattle.cycle_check.specs.Providers.{rank_by as rank_by_place}
use Rattle.cycle_check.specs.Rankings.{numbers_of, ranks_of}
use Rattle.cycle_check.proofs.Listing.{occurs_get}
use Rattle.rank_order.specs.Ranks.{rank_map, IsRankOrder}
use Rattle.rank_order.proofs.Kept.{kept_told, numbers_by_rank}
use Rattle.rank_order.proofs.ranks.Ranks.keep.Goals as goal

pub order_at-requires : goal.order_at-requires
order_at-requires c = λ k less.
    let xs = c.args.ranked.now in
    let places = c.args.by_rank.now in
    let p = get_or places k 0 in
    let inside : p < length xs = ltb-true p (length xs) (sym (c.requires.by_rank.complete p) ∙ occurs_get places k 0 less) in
    let size : length c.deref.result.now ≡ length xs = ap length (c.deref.ensures.value ∙ c.in_ok-ases.ensures) ∙ length-map xs (λ (x : RankedAs). x.asn) in
    omega (arith, inside, size)

pub invariant_of-result : goal.invariant_of-result
invariant_of-result c =
    let xs = c.args.ranked.now in
    let ases = c.in_ok-ases.ases.items in
    let ranks = c.in_ok-ranks.ranks.items in
    let places = c.args.by_rank.now in
    let asns : ases ≡ numbers_of xs = c.in_ok-ases.ensures in
    let own : ranks ≡ ranks_of xs = c.in_ok-ranks.ensures in
    let size : length xs ≡ length ases = sym (ap length asns ∙ length-map xs (λ (x : RankedAs). x.asn)) in
    let rising : IsStrictlyIncreasing ases = subst IsStrictlyIncreasing (sym asns) c.requires.rising in
    let by : ArePlacesByRank (length ases) ranks places = subst (λ n. ArePlacesByRank n ranks places) size (subst (λ rs. ArePlacesByRank (length xs) rs places) (sym own) c.requires.by_rank) in (
      ap length own ∙ length-map xs (λ (x : RankedAs). x.rank) ∙ size,
      (
        rising,
        (
          λ _. subst (λ ys. IsRankOrder (λ a. occurs a ases) (rank_by_place ases ranks) ys)
              (sym (c.in_ok-order.ensures ∙ ap (λ (ys : List ℕ). map (λ (p : ℕ). get_or ys p 0) places) c.deref.ensures.value))
              (numbers_by_rank ases ranks rising places by),
          tt,
        ),
      ),
    )

pub returns : goal.returns
returns c = record {
  told = λ a.
      ap (λ (ys : List ℕ). map_of.get (rank_map ys c.in_ok-ranks.ranks.items) a) c.in_ok-ases.ensures
      ∙ ap (λ (rs : List ℕ). map_of.get (rank_map (numbers_of c.args.ranked.now) rs) a) c.in_ok-ranks.ensures
      ∙ kept_told c.args.ranked.now a;
}
