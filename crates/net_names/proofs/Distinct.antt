-- Numbers that are distinct by std's word are so by recursion with `occurs`, and the other way round.
use Rattle.std.proofs.Common.{◌≡◌, ℕ, false, ◌==◌, List, [], ◌∷◌, refl, ◌∙◌, nat_eq}
use Rattle.std.specs.List.{AllByRecursion, IsDistinct as AreApart}
use Rattle.std.proofs.lemmas.Bool.{or_parts}
use Rattle.std.proofs.lemmas.Cmp.{nat_eq_equiv}
use Rattle.net_names.specs.Numbers.{occurs, IsDistinct}

others_apart : (ys : List ℕ) (x : ℕ) → occurs x ys ≡ false → AllByRecursion (λ y. nat_eq x y ≡ false) ys
others_apart [] x o = tt
others_apart (y ∷ ys) x o = let parts = or_parts (y == x) (occurs x ys) o in (nat_eq_equiv.symm x y ∙ parts.0, others_apart ys x parts.1)

pub not_in : (ys : List ℕ) (x : ℕ) → AllByRecursion (λ y. nat_eq x y ≡ false) ys → occurs x ys ≡ false
not_in [] x d = refl
not_in (y ∷ ys) x d = rw (nat_eq_equiv.symm y x ∙ d.0, not_in ys x d.1) refl

pub apart_from_distinct : (xs : List ℕ) → IsDistinct xs → AreApart nat_eq xs
unfolding AreApart
apart_from_distinct [] d = tt
apart_from_distinct (x ∷ xs) d = (others_apart xs x d.0, apart_from_distinct xs d.1)

pub distinct_from_apart : (xs : List ℕ) → AreApart nat_eq xs → IsDistinct xs
unfolding AreApart
distinct_from_apart [] d = tt
distinct_from_apart (x ∷ xs) d = (not_in xs x d.0, distinct_from_apart xs d.1)
