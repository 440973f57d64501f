-- A way that is told from its end.
use Rattle.std.proofs.Common.{◌≡◌, ◌⊎◌, inl, inr, ℕ, true, ◌==◌, Option, Some, List, [], ◌∷◌, ◌++◌, reverse, refl, sym, ◌∙◌, ap, subst, get_or}
use Rattle.std.proofs.lemmas.Bool.{true≢false, false_from_ne_true, or_left, or_right, eq-eqb}
use Rattle.std.proofs.lemmas.List.{reverse-append}
use Rattle.net_names.specs.declared.routes.Rel.{Rel}
use Rattle.net_names.specs.declared.routes.Rel.TheVariants.{Customer}
use Rattle.net_names.specs.Numbers.{occurs, IsDistinct, last_or}
use Rattle.as_graph.specs.Hierarchy.{IsDescent}
use Rattle.cycle_check.specs.Searches.{IsWayTo}
use Rattle.cycle_check.proofs.Descents.{occurs_push, distinct_push, descent_push, last_or_push}
use Rattle.cycle_check.proofs.Reaching.{first_push}

turned : (x : ℕ) (xs : List ℕ) → reverse (x ∷ xs) ≡ reverse xs ++ x ∷ []
turned x xs = reverse-append (x ∷ []) xs

last_reversed : (d : ℕ) (xs : List ℕ) → last_or d (reverse xs) ≡ get_or xs 0 d
last_reversed d [] = refl
last_reversed d (x ∷ xs) = ap (last_or d) (turned x xs) ∙ last_or_push d (reverse xs) x

first_reversed : (d : ℕ) (xs : List ℕ) → get_or (reverse xs) 0 d ≡ last_or d xs
first_reversed d [] = refl
first_reversed d (x ∷ xs) = ap (λ (ys : List ℕ). get_or ys 0 d) (turned x xs) ∙ first_push d (reverse xs) x ∙ first_reversed x xs

occurs_reversed : (z : ℕ) (xs : List ℕ) → occurs z (reverse xs) ≡ true → occurs z xs ≡ true
occurs_reversed z [] h = h
occurs_reversed z (x ∷ xs) h = elim (occurs_push z (reverse xs) x (ap (occurs z) (sym (turned x xs)) ∙ h)) [
  | inl e ↦ or_right (x == z) _ (occurs_reversed z xs e)
  | inr e ↦ or_left (x == z) _ (eq-eqb x z e)
]

distinct_reversed : (xs : List ℕ) → IsDistinct xs → IsDistinct (reverse xs)
distinct_reversed [] d = tt
distinct_reversed (x ∷ xs) d = subst IsDistinct (sym (turned x xs)) (distinct_push (reverse xs) x (distinct_reversed xs d.1) (false_from_ne_true (occurs x (reverse xs)) (λ h. true≢false (sym (occurs_reversed x xs h) ∙ d.0))))

module _ (relation : ℕ → ℕ → Option Rel) where
  rest_of : (x : ℕ) (xs : List ℕ) → IsDescent (λ a b. relation b a) (x ∷ xs) → IsDescent (λ a b. relation b a) xs
  rest_of x [] h = tt
  rest_of x (y ∷ ys) h = h.1

  next_of : (x : ℕ) (xs : List ℕ) → IsDescent (λ a b. relation b a) (x ∷ xs) → (reverse xs ≡ []) ⊎ (relation (last_or 0 (reverse xs)) x ≡ Some Customer)
  next_of x [] h = inl refl
  next_of x (y ∷ ys) h = inr (ap (λ t. relation t x) (last_reversed 0 (y ∷ ys)) ∙ h.0)

  descent_reversed : (xs : List ℕ) → IsDescent (λ a b. relation b a) xs → IsDescent relation (reverse xs)
  descent_reversed [] h = tt
  descent_reversed (x ∷ xs) h = subst (IsDescent relation) (sym (turned x xs)) (descent_push relation (reverse xs) x (descent_reversed xs (rest_of x xs h)) (next_of x xs h))

  pub way_reversed : (from to : ℕ) (xs : List ℕ) → IsWayTo (λ a b. relation b a) from to xs → IsWayTo relation to from (reverse xs)
  way_reversed from to xs h = record {
    descends = descent_reversed xs h.descends;
    distinct = distinct_reversed xs h.distinct;
    first = first_reversed 0 xs ∙ h.last;
    last = last_reversed 0 xs ∙ h.first;
  }
