use Rattle.std.proofs.Common.{◌≡◌, ◌∙◌, ◌<◌, ℕ, length, sym, subst, arith}
use Rattle.std.specs.Prelude.{All}
use Rattle.routing_tree.specs.declared.tree.PlacedSeed.{PlacedSeed}
use Rattle.routing_tree.specs.Trees.{HasPlaces, ParentsComeFirst}
use Rattle.trial_world.specs.declared.trees.PrefixTree.{PrefixTree}
use Rattle.trial_world.proofs.Renewed.{ordered_at, places_at, renewed}
use Rattle.trial_world.proofs.TreeSteps.{all_from}
use Rattle.trial_world.proofs.trees.renew_all.Goals as goal

pub grow_all-requires-clause-places : goal.grow_all-requires-clause-places
grow_all-requires-clause-places c = all_from (λ (x : PrefixTree). HasPlaces (length c.args.placed.now.ases.now) x.tree) c.args.prefixes.now (λ i one at. (c.requires.trees.each i one at).places)

pub grow_all-requires-clause-inside : goal.grow_all-requires-clause-inside
grow_all-requires-clause-inside c = all_from (λ (x : PrefixTree). All (λ (s : PlacedSeed). s.place < length c.args.placed.now.ases.now) x.seeds.items) c.args.prefixes.now (λ i one at. (c.requires.trees.each i one at).seeds.inside)

pub follow_all-requires-clause-places : goal.follow_all-requires-clause-places
follow_all-requires-clause-places c = subst (λ (n : ℕ). All (λ (x : PrefixTree). HasPlaces n x.tree) c.grow_all.new.prefixes) (sym c.requires.ends)
    (places_at c.args.fixed.now c.requires.fixed c.args.book.now c.args.placed.now c.requires.policies c.requires.order c.requires.links c.requires.kinds c.args.prefixes.now c.grow_all.new.prefixes c.grow_all.auto.prefixes c.grow_all.ensures c.requires.trees)

pub follow_all-requires-clause-order : goal.follow_all-requires-clause-order
follow_all-requires-clause-order c = subst (λ (n : ℕ). All (λ (x : PrefixTree). ParentsComeFirst x.tree n) c.grow_all.new.prefixes) (sym c.requires.ends)
    (ordered_at c.args.fixed.now c.requires.fixed c.args.book.now c.args.placed.now c.requires.policies c.requires.order c.requires.links c.requires.kinds c.args.prefixes.now c.grow_all.new.prefixes c.grow_all.auto.prefixes c.grow_all.ensures c.requires.trees)

pub returns : goal.returns
returns c =
    let count : length c.follow_all.new.ends.ends.items ≡ length c.args.placed.now.ases.now = c.follow_all.ensures.count ∙ c.requires.ends in
    renewed c.args.fixed.now c.requires.fixed c.args.book.now c.args.placed.now c.requires.policies c.requires.order c.requires.links c.requires.kinds c.args.prefixes.now c.grow_all.new.prefixes c.grow_all.auto.prefixes c.grow_all.ensures c.requires.trees
    c.right_follows.ensures c.one_stable_routing.ensures c.plans_are_sound.ensures c.paths_go_on.ensures c.requires.no_paths c.follow_all.new.ends.ends.items count
    (λ next sent. c.follow_all.ensures.ends next c.args.placed.now.ases.now (sym c.requires.ends) sent)
    (λ k less lost. c.follow_all.ensures.none k (omega (arith, less, c.requires.ends)) lost)
