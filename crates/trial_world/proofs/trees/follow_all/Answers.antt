use Rattle.std.proofs.Common.{◌≡◌, ◌∙◌, Some, ap, sym, arith}
use Rattle.std.specs.Prelude.{slice_get, slice_index}
use Rattle.std.proofs.lemmas.Option.{slice_get-get_or}
use Rattle.stability_laws.proofs.Listing.{at_next}
use Rattle.trial_world.specs.declared.trees.PrefixTree.{PrefixTree}
use Rattle.trial_world.proofs.trees.follow_all.Goals as goal

pub loop-one-preserved : goal.loop-one-preserved
loop-one-preserved c =
    let inv = c.loop-one.invariant in
    let trees = c.args.prefixes.now in
    let n = c.loop-one.one-index in
    let one = c.one-item.result in
    let at : slice_get trees n ≡ Some one = slice_get-get_or trees n one c.loop-one-test.true ∙ ap Some (sym c.one-item.is) in
    record {
      count = c.follow.ensures.count ∙ inv.count;
      none = λ k less lost.
          let (old, here) = (c.follow.ensures.known k (omega (arith, less, inv.count))).0 lost in
          at_next trees n one (λ (x : PrefixTree). slice_index x.tree.lengths.items k ≡ 0) at here (λ j x low there. inv.none k less old j x low there);
      ends = λ next ases len sent.
          c.follow.ensures.ends next ases (len ∙ sym inv.count) (inv.ends next ases len sent)
          (λ k less lost some. sent n one at k less some (inv.none k (omega (arith, less, len)) lost));
    }
