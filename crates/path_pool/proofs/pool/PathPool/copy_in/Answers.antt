use Rattle.std.proofs.Common.{arith, ◌≡◌, ℕ, suc, ◌-◌, ◌<◌, List, ◌∷◌, length, drop, sym, ap, subst, ◌∙◌, drop-cons}
use Rattle.path_pool.specs.Region.{GainsCells}
use Rattle.path_pool.proofs.ConsLemmas.{gains_longer}
use Rattle.path_pool.proofs.pool.PathPool.copy_in.Goals as goal

pub numbers-preserved : goal.numbers-preserved
numbers-preserved c =
    let xs : List ℕ = c.args.numbers.now in
    let i : ℕ = c.numbers.left - 1 in
    let h : ℕ = c.index-numbers-left-in-numbers.result in
    let within : i < length xs = omega (arith, c.numbers.invariant.inside) in
    let next : suc i ≡ c.numbers.left = omega (arith, c.numbers-test.true) in
    let whole : drop i xs ≡ h ∷ drop c.numbers.left xs =
    drop-cons xs i h within ∙ ap (λ x. x ∷ drop (suc i) xs) (sym c.index-numbers-left-in-numbers.is) ∙ ap (λ k. h ∷ drop k xs) next in
    record {
      inside = within;
      made = subst (GainsCells c.args.self.now.cells.items c.lengthen-path.new.self.cells.items c.lengthen-path.result.0) (sym whole)
          (gains_longer c.args.self.now.cells.items c.numbers.self.cells.items c.lengthen-path.new.self.cells.items c.numbers.path.0 c.lengthen-path.result.0 h (drop c.numbers.left xs) c.numbers.invariant.made c.lengthen-path.ensures.made);
      live = omega (arith, c.lengthen-path.ensures.live, c.numbers.invariant.live, c.numbers-test.true);
      spare = omega (arith, c.lengthen-path.ensures.spare, c.numbers.invariant.spare, c.numbers-test.true);
      limit = c.lengthen-path.ensures.limit ∙ c.numbers.invariant.limit;
    }
