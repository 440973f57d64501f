use Rattle.std.proofs.Common.{List, ℕ, get_or, ap, sym, ◌∙◌}
use Rattle.cycle_check.specs.Places.{place_in}
use Rattle.rank_order.specs.Ranks.{KeptRanks, rank_by}
use Rattle.rank_order.proofs.Kept.{rank_kept}
use Rattle.rank_order.proofs.ranks.Ranks.rank_near.Goals as goal

pub returns : goal.returns
returns c =
    let inside = c.self.inside in
    let ranks = inside.ranks.items in
    let asn = c.args.asn in
    c.rank_of.ensures
    ∙ ap (λ (xs : List ℕ). get_or xs c.place_near.result 0) c.deref-2.ensures.value
    ∙ ap (λ k. get_or ranks k 0) (c.place_near.ensures.place ∙ ap (λ (xs : List ℕ). place_in xs asn) c.deref-3.ensures.value)
    ∙ sym (rank_kept inside.ases.items ranks inside.each asn)
    ∙ ap (λ (r : KeptRanks). rank_by r.by_as asn) c.self.view_is
