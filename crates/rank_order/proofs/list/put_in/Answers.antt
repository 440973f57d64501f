use Rattle.std.proofs.Common.{ℕ, ◌≤◌, Ok, Err, List, length, false, ◌≡◌, sym, ap, subst, ◌∙◌}
use Rattle.std.specs.FinMap as map
use Rattle.std.specs.List.{insert}
use Rattle.std.specs.List.Sorted.{IsStrictlyIncreasing, IsBinarySearchResult}
use Rattle.std.specs.Ordering.{nat_cmp}
use Rattle.net_names.specs.Numbers.{occurs}
use Rattle.as_graph.proofs.OrderLemmas.{rising_insert}
use Rattle.rank_order.specs.Ranks.{rank_map}
use Rattle.rank_order.proofs.Edited.{get_set, get_insert, found_at, start_at, none_at}
use Rattle.rank_order.proofs.list.put_in.Goals as goal

pub insert_at-requires-clause-room : goal.insert_at-requires-clause-room
insert_at-requires-clause-room c =
    c.requires.room (none_at c.args.ases.now.items c.requires.rising c.args.asn c.in-Err.at (subst (λ ys. IsBinarySearchResult (λ n. nat_cmp n c.args.asn) ys (Err c.in-Err.at)) c.deref.ensures.value c.in-Err.ensures.position))

pub returns-in-Ok-clause-entries : goal.returns-in-Ok-clause-entries
returns-in-Ok-clause-entries c = λ a.
    let ases = c.args.ases.now.items in
    let found = found_at ases c.requires.rising c.args.asn c.in-Ok.at (subst (λ ys. IsBinarySearchResult (λ n. nat_cmp n c.args.asn) ys (Ok c.in-Ok.at)) c.deref.ensures.value c.in-Ok.ensures.position) in
    get_set ases c.args.ranks.now.items c.requires.rising c.requires.each c.in-Ok.at c.args.asn c.args.rank a found.0 found.1

pub returns-in-Err-clause-rising : goal.returns-in-Err-clause-rising
returns-in-Err-clause-rising c =
    let ases = c.args.ases.now.items in
    let position = subst (λ ys. IsBinarySearchResult (λ n. nat_cmp n c.args.asn) ys (Err c.in-Err.at)) c.deref.ensures.value c.in-Err.ensures.position in
    let within : c.in-Err.at ≤ length ases = subst (λ (ys : List ℕ). c.in-Err.at ≤ length ys) c.deref.ensures.value c.in-Err.ensures.bound in
    subst IsStrictlyIncreasing (sym c.insert_at.ensures.ases)
    (rising_insert ases c.requires.rising c.args.asn c.in-Err.at (start_at ases c.requires.rising c.args.asn c.in-Err.at position) within (none_at ases c.requires.rising c.args.asn c.in-Err.at position))

pub returns-in-Err-clause-entries : goal.returns-in-Err-clause-entries
returns-in-Err-clause-entries c = λ a.
    let ases = c.args.ases.now.items in
    let ranks = c.args.ranks.now.items in
    let at = c.in-Err.at in
    let position = subst (λ ys. IsBinarySearchResult (λ n. nat_cmp n c.args.asn) ys (Err at)) c.deref.ensures.value c.in-Err.ensures.position in
    let within : at ≤ length ases = subst (λ (ys : List ℕ). at ≤ length ys) c.deref.ensures.value c.in-Err.ensures.bound in
    ap (λ (xs : List ℕ). map.get (rank_map xs c.insert_at.new.ranks.items) a) c.insert_at.ensures.ases
    ∙ ap (λ (rs : List ℕ). map.get (rank_map (insert ases at c.args.asn) rs) a) c.insert_at.ensures.ranks
    ∙ get_insert ases ranks c.requires.rising c.requires.each at c.args.asn c.args.rank a within (none_at ases c.requires.rising c.args.asn at position)

pub returns-in-Err-clause-kept : goal.returns-in-Err-clause-kept
returns-in-Err-clause-kept c = λ there. (
    let away : occurs c.args.asn c.args.ases.now.items ≡ false =
    none_at c.args.ases.now.items c.requires.rising c.args.asn c.in-Err.at (subst (λ ys. IsBinarySearchResult (λ n. nat_cmp n c.args.asn) ys (Err c.in-Err.at)) c.deref.ensures.value c.in-Err.ensures.position) in
    cc)
