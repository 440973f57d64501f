use Rattle.std.proofs.Common.{ℕ, Ok, Err, List, ap, subst, ◌∙◌}
use Rattle.std.specs.FinMap as map
use Rattle.std.specs.List.{remove}
use Rattle.std.specs.List.Sorted.{IsBinarySearchResult}
use Rattle.std.specs.Ordering.{nat_cmp}
use Rattle.rank_order.specs.Ranks.{rank_map}
use Rattle.rank_order.proofs.Edited.{get_remove, get_away, found_at, none_at}
use Rattle.rank_order.proofs.list.take_in.Goals as goal

pub returns-in-Ok-clause-entries : goal.returns-in-Ok-clause-entries
returns-in-Ok-clause-entries c = λ a.
    let ases = c.args.ases.now.items in
    let at = c.in-Ok.at in
    let found = found_at ases c.requires.rising c.args.asn at (subst (λ ys. IsBinarySearchResult (λ n. nat_cmp n c.args.asn) ys (Ok at)) c.deref.ensures.value c.in-Ok.ensures.position) in
    ap (λ (xs : List ℕ). map.get (rank_map xs c.remove-rank.new.self.items) a) c.remove-asn.ensures.items
    ∙ ap (λ (rs : List ℕ). map.get (rank_map (remove ases at) rs) a) c.remove-rank.ensures.items
    ∙ get_remove ases c.args.ranks.now.items c.requires.rising c.requires.each at c.args.asn a found.0 found.1

pub returns-in-Err-clause-entries : goal.returns-in-Err-clause-entries
returns-in-Err-clause-entries c = λ a.
    let ases = c.args.ases.now.items in
    get_away ases c.args.ranks.now.items c.requires.rising c.requires.each c.args.asn a
    (none_at ases c.requires.rising c.args.asn c.in-Err.field-0 (subst (λ ys. IsBinarySearchResult (λ n. nat_cmp n c.args.asn) ys (Err c.in-Err.field-0)) c.deref.ensures.value c.in-Err.ensures.position))
