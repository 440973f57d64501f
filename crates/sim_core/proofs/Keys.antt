-- Which numbers the keys of a map give.
use Rattle.std.proofs.Common.{◌≡◌, ℕ, Bool, true, false, ◌||◌, ◌==◌, List, [], ◌∷◌, map, refl, sym, ap, ◌∙◌}
use Rattle.std.specs.Cmp.{IsTotalOrder}
use Rattle.std.specs.declared.cmp.Ordering.{Ordering}
use Rattle.std.specs.declared.cmp.Ordering.TheVariants.{Less, Equal, Greater}
use Rattle.std.specs.FinMap as fin
use Rattle.std.specs.FinMap.Entries.{by_order, put}
use Rattle.std.proofs.lemmas.List.{nil_from_length}
use Rattle.net_names.specs.Numbers.{occurs}
use Rattle.net_names.proofs.Shared.{or_swap}

or_again : (a b : Bool) → (a || b) ≡ (a || (a || b))
or_again true b = refl
or_again false b = refl

module _ {K X : Type 0} {R : K → K → Ordering} (o : IsTotalOrder R) (same : fin.IsAntisymmetric R) (f : K → ℕ) where
  -- the numbers of these entries' keys
  abbrev given : List (K × X) → List ℕ
  given es = map (λ e. f e.0) es

  occurs-put : (q : ℕ) (k : K) (v : X) (es : List (K × X)) → occurs q (given (put R k v es)) ≡ ((f k == q) || occurs q (given es))
  occurs-put q k v [] = refl
  occurs-put q k v (e ∷ es) =
      elim (R k e.0) as (λ r. R k e.0 ≡ r → occurs q (given (by_order r ((k, v) ∷ e ∷ es) ((e.0, v) ∷ es) (e ∷ put R k v es))) ≡ ((f k == q) || ((f e.0 == q) || occurs q (given es)))) [
        | Less ↦ λ p. refl
        | Equal ↦ λ p. or_again (f e.0 == q) (occurs q (given es)) ∙ ap (λ x. (f x == q) || ((f e.0 == q) || occurs q (given es))) (sym (same k e.0 p))
        | Greater ↦ λ p. ap (λ b. (f e.0 == q) || b) (occurs-put q k v es) ∙ or_swap (f e.0 == q) (f k == q) (occurs q (given es))
      ] refl

  -- a map of a list gives the numbers of the list
  pub occurs-from_entries : (q : ℕ) (es : List (K × X)) → occurs q (given (fin.entries (fin.from_entries {R = R} es))) ≡ occurs q (given es)
  occurs-from_entries q [] = ap (λ xs. occurs q (given xs)) (nil_from_length (fin.entries (fin.empty {X = X} {R = R})) (sym (fin.len-entries fin.empty) ∙ fin.len-empty R X))
  occurs-from_entries q (e ∷ es) =
      ap (λ xs. occurs q (given xs)) (fin.entries-insert o (fin.from_entries es) e.0 e.1)
      ∙ occurs-put q e.0 e.1 (fin.entries (fin.from_entries es))
      ∙ ap (λ b. (f e.0 == q) || b) (occurs-from_entries q es)
