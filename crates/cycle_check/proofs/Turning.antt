-- A provider cycle may be told from any of its ASes on.
use Rattle.std.proofs.Common.{◌≡◌, inl, inr, ℕ, suc, ◌<◌, ◌≤◌, Bool, true, false, ◌||◌, ◌==◌, nat_lt, cond, Option, None, Some, List, [], ◌∷◌, ◌++◌, length, get_or, take, drop, refl, sym, ◌∙◌, ap, subst, arith, append_assoc}
use Rattle.std.proofs.lemmas.Bool.{or_cases, or_left, or_right, eqb-true, ltb-false}
use Rattle.std.proofs.lemmas.List.{append-nil, take-append-drop, drop_more, length_push, get_or_default}
use Rattle.std.proofs.lemmas.List.Folds.{list_any-append, Any-from_list_any}
use Rattle.net_names.specs.declared.routes.Rel.{Rel}
use Rattle.net_names.specs.declared.routes.Rel.TheVariants.{Customer}
use Rattle.net_names.specs.Numbers.{occurs, IsDistinct, last_or}
use Rattle.as_graph.specs.Hierarchy.{IsDescent, IsProviderCycle}
use Rattle.as_graph.proofs.Told.{IsCycleTold, cycle_told, cycle_from}
use Rattle.cycle_check.specs.Places.{place_in}
use Rattle.cycle_check.specs.Cycles.{IsCycleFromLowest, IsTurned}
use Rattle.cycle_check.proofs.Descents.{distinct_push, last_or_push, descent_push}

module _ (xs : List ℕ) (k : ℕ) (inside : k < length xs) where
  first_of_turned : get_or (drop k xs ++ take k xs) 0 0 ≡ get_or xs k 0
  first_of_turned = ap (λ ys. get_or (ys ++ take k xs) 0 0) (drop_more xs k 0 inside)

  occurs_turned : (a : ℕ) → occurs a (drop k xs ++ take k xs) ≡ true → occurs a xs ≡ true
  occurs_turned a o =
      let whole : occurs a xs ≡ (occurs a (take k xs) || occurs a (drop k xs)) = ap (occurs a) (sym (take-append-drop k xs)) ∙ list_any-append (λ y. y == a) (take k xs) (drop k xs) in
      whole ∙ elim (or_cases (occurs a (drop k xs)) (occurs a (take k xs)) (sym (list_any-append (λ y. y == a) (drop k xs) (take k xs)) ∙ o)) [
        | inl e ↦ or_right (occurs a (take k xs)) _ e
        | inr e ↦ or_left (occurs a (take k xs)) _ e
      ]

  pub turned_lowest : ((j d : ℕ) → j < length xs → nat_lt (get_or xs j d) (get_or xs k d) ≡ false) → IsTurned xs (drop k xs ++ take k xs)
  turned_lowest least = record {
    turned = (k, refl);
    lowest = λ a o.
        let (j, y, less, at, is) = Any-from_list_any (λ t. t == a) xs (occurs_turned a o) in
        let le : get_or xs k y ≤ get_or xs j y = ltb-false (get_or xs j y) (get_or xs k y) (least j y less) in
        let same : y ≡ a = eqb-true y a is in
        let first = first_of_turned ∙ get_or_default xs k 0 y inside in
        omega (arith, le, at, same, first);
  }

module _ (relation : ℕ → ℕ → Option Rel) where
  descent_rest : (x : ℕ) (xs : List ℕ) → IsDescent relation (x ∷ xs) → IsDescent relation xs
  descent_rest x [] h = tt
  descent_rest x (y ∷ ys) h = h.1

  -- the first AS of a cycle may be its last
  one_turn : (x : ℕ) (xs : List ℕ) → IsCycleTold relation (x ∷ xs) → IsCycleTold relation (xs ++ x ∷ [])
  one_turn x [] h = let two : 2 ≤ 1 = h.two in absurd (omega arith)
  one_turn x (y ∷ ys) h = record {
    two = omega (arith, length_push (y ∷ ys) x, h.two);
    distinct = distinct_push (y ∷ ys) x h.distinct.1 h.distinct.0;
    descends = descent_push relation (y ∷ ys) x h.descends.1 (inr h.closes);
    closes = subst (λ t. relation t y ≡ Some Customer) (sym (last_or_push 0 (y ∷ ys) x)) h.descends.0;
  }

  pub turns : (xs ys : List ℕ) → IsProviderCycle relation (xs ++ ys) → IsProviderCycle relation (ys ++ xs)
  turns [] ys h = subst (IsProviderCycle relation) (sym (append-nil ys)) h
  turns (x ∷ xs) ys h =
      let turned : IsProviderCycle relation (xs ++ (ys ++ x ∷ [])) = subst (IsProviderCycle relation) (append_assoc xs ys (x ∷ [])) (cycle_from relation (xs ++ ys ++ x ∷ []) (one_turn x (xs ++ ys) (cycle_told relation (x ∷ (xs ++ ys)) h))) in
      subst (IsProviderCycle relation) (append_assoc ys (x ∷ []) xs) (turns xs (ys ++ x ∷ []) turned)

  pub turned_cycle : (xs ys : List ℕ) → IsProviderCycle relation xs → IsTurned xs ys → IsCycleFromLowest relation ys
  turned_cycle xs ys h t =
      let (k, e) = t.turned in record {
        cycle = subst (IsProviderCycle relation) (sym e) (turns (take k xs) (drop k xs) (subst (IsProviderCycle relation) (sym (take-append-drop k xs)) h));
        lowest = t.lowest;
      }

  -- the part of a descent from an AS on, of which the last is a provider, is a cycle
  module _ (to_itself : (a : ℕ) → relation a a ≡ None) (a : ℕ) where
    from_first : (xs : List ℕ) (d : ℕ) → IsDescent relation xs → IsDistinct xs → occurs a xs ≡ true → relation (last_or d xs) a ≡ Some Customer → IsProviderCycle relation (drop (place_in xs a) xs)
    from_first [] d h u o e = cc
    from_first (x ∷ xs) d h u o e = by (x == a) refl (from_first xs x (descent_rest x xs h) u.1)
      where
        here : (ys : List ℕ) → x ≡ a → IsDescent relation (x ∷ ys) → IsDistinct (x ∷ ys) → relation (last_or x ys) a ≡ Some Customer → IsProviderCycle relation (x ∷ ys)
        here [] is h u e = let self : relation a a ≡ Some Customer = subst (λ t. relation t a ≡ Some Customer) is e in let none = to_itself a in cc
        here (y ∷ ys) is h u e = cycle_from relation (x ∷ y ∷ ys) (record { two = omega arith; distinct = u; descends = h; closes = subst (λ t. relation (last_or y ys) t ≡ Some Customer) (sym is) e })

        by : (b : Bool) → (x == a) ≡ b → (occurs a xs ≡ true → relation (last_or x xs) a ≡ Some Customer → IsProviderCycle relation (drop (place_in xs a) xs)) → IsProviderCycle relation (drop (cond b 0 (suc (place_in xs a))) (x ∷ xs))
        by true is ih = here xs (eqb-true x a is) h u e
        by false is ih = ih (sym (ap (λ b. b || occurs a xs) is) ∙ o) e

    pub stretch_cycle : (xs : List ℕ) → IsDescent relation xs → IsDistinct xs → occurs a xs ≡ true → relation (last_or 0 xs) a ≡ Some Customer → IsProviderCycle relation (drop (place_in xs a) xs)
    stretch_cycle xs = from_first xs 0
