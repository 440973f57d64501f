-- Lists of numbers with one more at the end, and places below one more.
use Rattle.std.proofs.Common.{◌≡◌, ◌⊎◌, inl, inr, ◌==◌, ◌||◌, ◌+◌, ◌<◌, ℕ, Bool, true, false, List, [], ◌∷◌, ◌++◌, length, get_or, take, refl, sym, ap, ◌∙◌}
use Rattle.std.proofs.lemmas.Bool.{eqb-true}
use Rattle.std.proofs.lemmas.List.{map-append, take_more}
use Rattle.as_graph.specs.Neighbours.{asns}
use Rattle.as_graph.specs.declared.neighbour.Neighbour.{Neighbour}
use Rattle.net_names.specs.Numbers.{occurs}
use Rattle.as_graph.proofs.RowAses.{occurs-append}

pub pushed_split : (n : ℕ) (xs : List ℕ) (y : ℕ) → occurs n (xs ++ y ∷ []) ≡ true → (occurs n xs ≡ true) ⊎ (y ≡ n)
pushed_split n xs y h = by (occurs n xs) refl (y == n) refl (sym (occurs-append n xs (y ∷ [])) ∙ h)
  where
    by : (t : Bool) → occurs n xs ≡ t → (s : Bool) → (y == n) ≡ s → (t || (s || false)) ≡ true → (occurs n xs ≡ true) ⊎ (y ≡ n)
    by true e s f k = inl e
    by false e true f k = inr (eqb-true y n f)
    by false e false f k = cc

-- the neighbours so far with one more: those of before, and this one
pub neighbour_more : (xs : List Neighbour) (i : ℕ) (x : Neighbour) → i < length xs → x ≡ get_or xs i x → (n : ℕ) → occurs n (asns (take (i + 1) xs)) ≡ true → (occurs n (asns (take i xs)) ≡ true) ⊎ (x.asn ≡ n)
neighbour_more xs i x less at n h = pushed_split n (asns (take i xs)) x.asn (sym (ap (occurs n) named) ∙ h)
  where
    named : asns (take (i + 1) xs) ≡ asns (take i xs) ++ x.asn ∷ []
    named = ap asns (take_more xs i x less ∙ ap (λ (y : Neighbour). take i xs ++ y ∷ []) (sym at)) ∙ map-append (λ (y : Neighbour). y.asn) (take i xs) (x ∷ [])
