use Rattle.std.proofs.Common.{◌≡◌, Some, ◌++◌, filter, Vec, Global, length, take_all, refl, rules, sym, ap, ◌∙◌}
use Rattle.std.specs.Prelude.{is_some, slice_get}
use Rattle.std.specs.Option.{option_to_list}
use Rattle.std.proofs.lemmas.List.{append-nil}
use Rattle.std.proofs.lemmas.List.Sorted.{answers_always, IsNonDecreasingBy-from_sort}
use Rattle.std.proofs.lemmas.Option.{slice_get_read}
use Rattle.net_names.proofs.Distinct.{distinct_from_apart}
use Rattle.route_choice.specs.Routings.{table_routing}
use Rattle.leak_round.specs.declared.holders.Holder.{Holder}
use Rattle.leak_round.proofs.HolderLists.{all_holders, holders_sorted, more_holders}
use Rattle.leak_round.proofs.holders.holders_by_length.Goals as goal
use Rattle.leak_round.proofs.holders.holders_by_length.Goals.{in-Some+in_ok-push, in_default}

pub loop-place-preserved : goal.loop-place-preserved
loop-place-preserved c =
    let f = table_routing c.args.pool.now c.args.table.now in
    let ases = c.args.ases.now in
    let old = c.loop-place.invariant in
    let a = c.index-ases-place.result in
    let at : slice_get ases c.loop-place.place ≡ Some a = slice_get_read ases (length ases) c.loop-place.place a refl c.loop-place-test.true c.index-ases-place.is in
    let items : c.match-holder_at.holders.items ≡ c.loop-place.holders.items ++ option_to_list c.holder_at.result = elim c.match-holder_at.branch [
      | in-Some+in_ok-push w ↦ ap (λ (v : Vec Holder Global). v.items) w.holders-is ∙ w.in_ok-push.ensures.items ∙ ap (λ o. c.loop-place.holders.items ++ option_to_list o) (sym w.in-Some.is)
      | in_default w ↦ ap (λ (v : Vec Holder Global). v.items) w.holders-is ∙ sym (append-nil c.loop-place.holders.items) ∙ ap (λ o. c.loop-place.holders.items ++ option_to_list o) (sym w.in_default.is)
    ] in
    let both = more_holders f ases c.loop-place.place a c.loop-place.holders.items c.match-holder_at.holders.items c.holder_at.result at c.holder_at.ensures items old.asns old.entries in
    record { asns = both.0; entries = both.1 }

pub returns-clause-holders : goal.returns-clause-holders
returns-clause-holders c =
    let f = table_routing c.args.pool.now c.args.table.now in
    let all = all_holders f c.args.ases.now c.loop-place.holders.items (distinct_from_apart c.args.ases.now c.requires.apart) c.requires.among (c.loop-place.invariant.asns ∙ ap (filter (λ b. is_some (f b))) (take_all c.loop-place.place c.args.ases.now c.loop-place-test.false)) c.loop-place.invariant.entries in
    holders_sorted f c.loop-place.holders.items c.sort_unstable_by_key.new.self.items c.sort_unstable_by_key.ensures.permutation all

pub returns-clause-rising : goal.returns-clause-rising
returns-clause-rising c = IsNonDecreasingBy-from_sort (λ (x : Holder). x.length) c.sort_unstable_by_key.new.self.items (c.sort_unstable_by_key.ensures.sorted (λ (x : Holder). x.length) (answers_always _ _ _ (λ f a r g called. search rules)))
