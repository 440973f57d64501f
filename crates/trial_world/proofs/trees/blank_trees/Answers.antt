use Rattle.std.proofs.Common.{◌≡◌, ◌∙◌, ◌++◌, ◌∷◌, [], ◌-◌, None, Some, List, map, ap, sym, subst}
use Rattle.std.specs.Prelude.{slice_get}
use Rattle.std.specs.List.Sorted.{IsNonDecreasingBy, IsPermutation}
use Rattle.std.proofs.lemmas.List.{take_all}
use Rattle.std.proofs.lemmas.List.Sorted.{Contains-permutation, IsPermutation-sym}
use Rattle.std.proofs.lemmas.Option.{slice_get-get_or}
use Rattle.net_names.specs.Prefixes.{PrefixValue}
use Rattle.stability_laws.specs.Plans.{prefixes_of}
use Rattle.stability_laws.proofs.Listing.{take_next}
use Rattle.sim_core.proofs.Families.{listed_prefix}
use Rattle.trial_world.specs.declared.trees.PrefixTree.{PrefixTree}
use Rattle.trial_world.proofs.TreeSteps.{image_push, tree_more, trees_done}
use Rattle.trial_world.proofs.trees.blank_trees.Goals as goal

pub loop-prefix-init : goal.loop-prefix-init
loop-prefix-init c = record {
  each = λ i one at. absurd (let no : None ≡ Some one = ap (λ (xs : List PrefixTree). slice_get xs i) (sym c.new-trees.ensures.items) ∙ at in cc);
  prefixes_are = ap (map (λ (t : PrefixTree). t.prefix)) c.new-trees.ensures.items;
}

pub blank_tree-requires-clause-known : goal.blank_tree-requires-clause-known
blank_tree-requires-clause-known c =
    let plan = c.args.fixed.now.plan in
    let items = c.deref-prefix-items.result.now in
    let same : IsPermutation (prefixes_of plan) items = subst (λ (s : List PrefixValue × List PrefixValue). IsPermutation s.0 s.1) (λ i. (c.prefixes.ensures i, sym c.deref-prefix-items.ensures.value i)) c.in_ok-prefixes.ensures.same in
    listed_prefix plan c.prefix-item.result (Contains-permutation items (prefixes_of plan) c.prefix-item.result (IsPermutation-sym (prefixes_of plan) items same) (c.loop-prefix.prefix-index, c.loop-prefix-test.true, sym c.prefix-item.is))

pub loop-prefix-preserved : goal.loop-prefix-preserved
loop-prefix-preserved c =
    let items = c.deref-prefix-items.result.now in
    let n = c.loop-prefix.prefix-index in
    let x = c.prefix-item.result in
    let inv = c.loop-prefix.invariant in
    let one = c.in_ok-blank_tree.field-0 in
    let at : slice_get items n ≡ Some x = slice_get-get_or items n x c.loop-prefix-test.true ∙ ap Some (sym c.prefix-item.is) in
    let more = c.in_ok-push.ensures.items in
    record {
      each = λ i y there. tree_more c.args.fixed.now c.args.order.now.ases c.loop-prefix.trees.items one inv.each c.in_ok-blank_tree.ensures.tree i y (ap (λ (xs : List PrefixTree). slice_get xs i) (sym more) ∙ there);
      prefixes_are =
          ap (map (λ (t : PrefixTree). t.prefix)) more ∙ image_push (λ (t : PrefixTree). t.prefix) c.loop-prefix.trees.items one
          ∙ (λ i. inv.prefixes_are i ++ c.in_ok-blank_tree.ensures.prefix i ∷ []) ∙ sym (take_next items n x at);
    }

pub returns : goal.returns
returns c =
    let plan = c.args.fixed.now.plan in
    let items = c.deref-prefix-items.result.now in
    let same : IsPermutation (prefixes_of plan) items = subst (λ (s : List PrefixValue × List PrefixValue). IsPermutation s.0 s.1) (λ i. (c.prefixes.ensures i, sym c.deref-prefix-items.ensures.value i)) c.in_ok-prefixes.ensures.same in
    let falls : IsNonDecreasingBy (λ (p : PrefixValue). 255 - p.len) items = subst (IsNonDecreasingBy (λ (p : PrefixValue). 255 - p.len)) (sym c.deref-prefix-items.ensures.value) c.in_ok-prefixes.ensures.falling in
    trees_done c.args.fixed.now c.args.order.now.ases items c.loop-prefix.trees.items same falls c.loop-prefix.invariant.each
    (c.loop-prefix.invariant.prefixes_are ∙ take_all c.loop-prefix.prefix-index items c.loop-prefix-test.false)
