-- Lists with the same elements, in which nothing stands twice, differ in their order alone.
use Rattle.std.proofs.Common.{◌≡◌, ◌≢◌, ◌⊎◌, inl, inr, ℕ, zero, suc, ◌<◌, List, [], ◌∷◌, length, get_or, refl, sym, subst, arith}
use Rattle.std.specs.List.{AllPairs, Contains}
use Rattle.std.specs.List.Sorted.{IsPermutation}
use Rattle.std.proofs.lemmas.List.Sorted.{IsPermutation-refl, IsPermutation-cons, IsPermutation-middle, IsPermutation-trans, IsPermutation-sym}

module _ {X : Type 0} where
  -- the element stands in the list
  abbrev pub Has : X → List X → Type 0
  Has x [] = ⊥
  Has x (y ∷ ys) = (y ≡ x) ⊎ Has x ys

  -- nothing stands twice
  abbrev pub Apart : List X → Type 0
  Apart [] = Unit {0}
  Apart (x ∷ xs) = (Has x xs → ⊥) × Apart xs

  -- the list without the element at one place
  abbrev pub without : (x : X) (ys : List X) → Has x ys → List X
  without x [] h = []
  without x (y ∷ ys) (inl e) = ys
  without x (y ∷ ys) (inr h) = y ∷ without x ys h

  to_front : (x : X) (ys : List X) (h : Has x ys) → IsPermutation ys (x ∷ without x ys h)
  to_front x [] h = absurd h
  to_front x (y ∷ ys) (inl e) = subst (λ (z : X). IsPermutation (y ∷ ys) (z ∷ ys)) e (IsPermutation-refl (y ∷ ys))
  to_front x (y ∷ ys) (inr h) = IsPermutation-trans _ _ _ (IsPermutation-cons y ys (x ∷ without x ys h) (to_front x ys h)) (IsPermutation-middle (y ∷ []) x (without x ys h))

  kept : (z x : X) (ys : List X) (h : Has x ys) → Has z (without x ys h) → Has z ys
  kept z x [] h k = k
  kept z x (y ∷ ys) (inl e) k = inr k
  kept z x (y ∷ ys) (inr h) (inl e) = inl e
  kept z x (y ∷ ys) (inr h) (inr k) = inr (kept z x ys h k)

  others : (z x : X) (ys : List X) (h : Has x ys) → Has z ys → (x ≡ z → ⊥) → Has z (without x ys h)
  others z x [] h k n = k
  others z x (y ∷ ys) (inl e) (inl f) n = absurd (n (let s : x ≡ z = cc in s))
  others z x (y ∷ ys) (inl e) (inr k) n = k
  others z x (y ∷ ys) (inr h) (inl f) n = inl f
  others z x (y ∷ ys) (inr h) (inr k) n = inr (others z x ys h k n)

  still_apart : (x : X) (ys : List X) (h : Has x ys) → Apart ys → Apart (without x ys h)
  still_apart x [] h a = a
  still_apart x (y ∷ ys) (inl e) a = a.1
  still_apart x (y ∷ ys) (inr h) a = (λ k. a.0 (kept y x ys h k), still_apart x ys h a.1)

  gone : (x : X) (ys : List X) (h : Has x ys) → Apart ys → Has x (without x ys h) → ⊥
  gone x [] h a k = k
  gone x (y ∷ ys) (inl e) a k = a.0 (subst (λ (z : X). Has z ys) (sym e) k)
  gone x (y ∷ ys) (inr h) a (inl e) = a.0 (subst (λ (z : X). Has z ys) (sym e) h)
  gone x (y ∷ ys) (inr h) a (inr k) = gone x ys h a.1 k

  same_apart : (xs ys : List X) → Apart xs → Apart ys → ((z : X) → Has z xs → Has z ys) → ((z : X) → Has z ys → Has z xs) → IsPermutation xs ys
  same_apart [] [] a b to back = IsPermutation-refl []
  same_apart [] (y ∷ ys) a b to back = absurd (back y (inl refl))
  same_apart (x ∷ xs) ys a b to back =
      let h : Has x ys = to x (inl refl) in
      let rest : List X = without x ys h in
      let into : (z : X) → Has z xs → Has z rest = λ z k. others z x ys h (to z (inr k)) (λ e. a.0 (subst (λ (t : X). Has t xs) (sym e) k)) in
      let from : (z : X) → Has z rest → Has z xs = λ z k. elim (back z (kept z x ys h k)) [
        | inl e ↦ absurd (gone x ys h b (subst (λ (t : X). Has t rest) (sym e) k))
        | inr r ↦ r
      ] in
      IsPermutation-trans _ _ _ (IsPermutation-cons x xs rest (same_apart xs rest a.1 (still_apart x ys h b) into from)) (IsPermutation-sym _ _ (to_front x ys h))

  has_at : (x : X) (xs : List X) (k : ℕ) → k < length xs → get_or xs k x ≡ x → Has x xs
  has_at x [] k l e = absurd (omega arith)
  has_at x (y ∷ ys) zero l e = inl e
  has_at x (y ∷ ys) (suc k) l e = inr (has_at x ys k (omega arith) e)

  at_has : (x : X) (xs : List X) → Has x xs → Contains xs x
  at_has x [] h = absurd h
  at_has x (y ∷ ys) (inl e) = (0, omega arith, e)
  at_has x (y ∷ ys) (inr h) = let r : Contains ys x = at_has x ys h in (suc r.0, omega (arith, r.1), r.2)

  apart : (xs : List X) → AllPairs (λ x y. x ≢ y) xs → Apart xs
  apart [] p = tt
  apart (x ∷ xs) p = (
    λ h. let r : Contains xs x = at_has x xs h in p 0 (suc r.0) x (omega arith) (omega (arith, r.1)) (sym r.2),
    apart xs (λ i j d l m. p (suc i) (suc j) d (omega arith) (omega arith)),
  )

  -- the same elements, in another order
  pub same_elements : (xs ys : List X) → AllPairs (λ x y. x ≢ y) xs → AllPairs (λ x y. x ≢ y) ys → ((z : X) → Contains xs z → Contains ys z) → ((z : X) → Contains ys z → Contains xs z) → IsPermutation xs ys
  same_elements xs ys a b to back =
      let into : (z : X) → Has z xs → Has z ys = λ z h. let r = to z (at_has z xs h) in has_at z ys r.0 r.1 r.2 in
      let from : (z : X) → Has z ys → Has z xs = λ z h. let r = back z (at_has z ys h) in has_at z xs r.0 r.1 r.2 in
      same_apart xs ys (apart xs a) (apart ys b) into from
