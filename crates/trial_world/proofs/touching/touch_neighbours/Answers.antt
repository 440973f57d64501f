use Rattle.std.proofs.Common.{◌≡◌, ◌∙◌, ◌+◌, ◌++◌, ◌∷◌, [], ℕ, List, true, inl, inr, take, sym, ap, subst}
use Rattle.std.proofs.lemmas.List.{map-append, take_more}
use Rattle.as_graph.specs.Neighbours.{asns}
use Rattle.as_graph.specs.declared.neighbour.Neighbour.{Neighbour}
use Rattle.net_names.specs.Numbers.{occurs}
use Rattle.leak_round.specs.Touched.{touches}
use Rattle.sim_core.proofs.Pushing.{pushed_split}
use Rattle.trial_world.proofs.touching.touch_neighbours.Goals as goal

pub loop-neighbour-preserved : goal.loop-neighbour-preserved
loop-neighbour-preserved c =
    let xs = c.neighbours-neighbour-items.result.now in
    let i = c.loop-neighbour.neighbour-index in
    let x = c.neighbour-item.result in
    let inv = c.loop-neighbour.invariant in
    let longer : take (i + 1) xs ≡ take i xs ++ x ∷ [] = take_more xs i x c.loop-neighbour-test.true ∙ ap (λ (y : Neighbour). take i xs ++ y ∷ []) (sym c.neighbour-item.is) in
    let named : asns (take (i + 1) xs) ≡ asns (take i xs) ++ x.asn ∷ [] = ap asns longer ∙ map-append (λ (y : Neighbour). y.asn) (take i xs) (x ∷ []) in
    record {
      these = λ n h. elim (pushed_split n (asns (take i xs)) x.asn (subst (λ (l : List ℕ). occurs n l ≡ true) named h)) [
        | inl e ↦ c.add.ensures.more c.args.prefix n (inv.these n e)
        | inr s ↦ subst (λ (m : ℕ). touches c.add.new.self c.args.prefix m ≡ true) s c.in_ok-add.ensures.this
      ];
      more = λ p a h. c.add.ensures.more p a (inv.more p a h);
    }
