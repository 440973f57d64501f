use Rattle.std.proofs.Common.{◌≡◌, ◌∙◌, ◌<◌, ℕ, Some, length, ap, sym, subst, arith}
use Rattle.std.specs.Prelude.{slice_get}
use Rattle.std.proofs.lemmas.Option.{slice_get-get_or, slice_get_within}
use Rattle.trial_world.specs.Trees.{IsRegrown}
use Rattle.trial_world.specs.declared.trees.PrefixTree.{PrefixTree}
use Rattle.trial_world.proofs.TreeLists.{write_next, written_there}
use Rattle.trial_world.proofs.trees.grow_all.Goals as goal

pub loop-one-preserved : goal.loop-one-preserved
loop-one-preserved c =
    let inv = c.loop-one.invariant in
    let old = c.args.prefixes.now in
    let now = c.loop-one.prefixes in
    let n = c.loop-one.one-index in
    let one = c.one-item.result in
    let at : slice_get now n ≡ Some one = slice_get-get_or now n one (omega (arith, c.loop-one-test.true, c.loop-one.auto.prefixes)) ∙ ap Some (sym c.one-item.is) in
    let was : slice_get old n ≡ Some one = sym (inv.rest n (omega arith)) ∙ at in
    record {
      done = λ i x y less there stands.
          write_next (λ (j : ℕ) (z : PrefixTree). (v : PrefixTree) → slice_get old j ≡ Some v → IsRegrown c.args.placed.now v z) now n c.grow_one.new.one
          (λ v v_at. (let same : Some one ≡ Some v = sym was ∙ v_at in let is : one ≡ v = cc in subst (λ (w : PrefixTree). IsRegrown c.args.placed.now w c.grow_one.new.one) is (subst (λ (w : PrefixTree). IsRegrown c.args.placed.now w c.grow_one.new.one) (sym c.one-item.is) c.grow_one.ensures)))
          (λ j z low z_at v v_at. inv.done j v z low v_at z_at) i y less stands x there;
      rest = λ i past. written_there now n i c.grow_one.new.one (λ e. omega (arith, past, e)) ∙ inv.rest i (omega (arith, past));
    }

pub returns : goal.returns
returns c = λ i x y was at.
    let within : i < length c.loop-one.prefixes = slice_get_within c.loop-one.prefixes i y at in
    c.loop-one.invariant.done i x y (omega (arith, within, c.loop-one-test.false)) was at
