-- Tests of the elements of a list.
use Rattle.std.proofs.Common.{◌≡◌, ℕ, zero, suc, ◌<◌, ◌≤◌, length, take, drop, get_or, arith, Bool, true, false, cond, ◌||◌, ◌&&◌, List, [], ◌∷◌, ◌++◌, refl, ap, ◌∙◌, append-nil}
use Rattle.std.specs.List.{insert, remove, list_any, list_all, filter, AllByRecursion}
use Rattle.std.proofs.lemmas.List.Elements.{filter-append}
use Rattle.net_names.proofs.Shortening.{both, both_true}
pub use Rattle.net_names.proofs.Shared.{or_false, on_err}
pub use Rattle.std.proofs.lemmas.Bool.{not-true as not_true, not-false as not_false, not_from_false as not-false, or_cases as either_true, or_left, or_right}

-- two tests that both fail
pub record BothFalse (a b : Bool) : Type 0 where
  pub left : a ≡ false
  pub right : b ≡ false

pub neither : (a b : Bool) → (a || b) ≡ false → BothFalse a b
neither true b e = cc e
neither false b e = record { left = refl; right = e }

pub and_true : (a : Bool) → (a && true) ≡ a
and_true true = refl
and_true false = refl

pub and_false : (a : Bool) → (a && false) ≡ false
and_false true = refl
and_false false = refl

module _ {A : Type 0} where
  -- what passes one test passes another
  pub list_all_mono : (p q : A → Bool) → ((x : A) → p x ≡ true → q x ≡ true) → (xs : List A) → list_all p xs ≡ true → list_all q xs ≡ true
  list_all_mono p q f [] h = refl
  list_all_mono p q f (x ∷ xs) h = let k = both _ _ h in both_true _ _ (f x k.left) (list_all_mono p q f xs k.right)

  pub list_all_append : (p : A → Bool) (xs ys : List A) → list_all p xs ≡ true → list_all p ys ≡ true → list_all p (xs ++ ys) ≡ true
  list_all_append p [] ys h k = k
  list_all_append p (x ∷ xs) ys h k = let e = both _ _ h in both_true _ _ e.left (list_all_append p xs ys e.right k)

  pub list_all_left : (p : A → Bool) (xs ys : List A) → list_all p (xs ++ ys) ≡ true → list_all p xs ≡ true
  list_all_left p [] ys h = refl
  list_all_left p (x ∷ xs) ys h = let e = both _ _ h in both_true _ _ e.left (list_all_left p xs ys e.right)

  pub list_all_right : (p : A → Bool) (xs ys : List A) → list_all p (xs ++ ys) ≡ true → list_all p ys ≡ true
  list_all_right p [] ys h = h
  list_all_right p (x ∷ xs) ys h = list_all_right p xs ys (both _ _ h).right

  -- nothing passes a test where all pass its opposite
  pub list_any_opposite : (p q : A → Bool) → ((x : A) → p x ≡ true → q x ≡ false) → (xs : List A) → list_all p xs ≡ true → list_any q xs ≡ false
  list_any_opposite p q f [] h = refl
  list_any_opposite p q f (x ∷ xs) h = let e = both _ _ h in ap (λ b. b || list_any q xs) (f x e.left) ∙ list_any_opposite p q f xs e.right

  -- where none passes, all pass the opposite
  pub list_all_opposite : (p q : A → Bool) → ((x : A) → p x ≡ false → q x ≡ true) → (xs : List A) → list_any p xs ≡ false → list_all q xs ≡ true
  list_all_opposite p q f [] h = refl
  list_all_opposite p q f (x ∷ xs) h = let e = neither _ _ h in both_true _ _ (f x e.left) (list_all_opposite p q f xs e.right)

  pub list_any_take : (p : A → Bool) (n : ℕ) (xs : List A) → list_any p xs ≡ false → list_any p (take n xs) ≡ false
  list_any_take p zero [] h = refl
  list_any_take p zero (x ∷ xs) h = refl
  list_any_take p (suc n) [] h = refl
  list_any_take p (suc n) (x ∷ xs) h = let e = neither _ _ h in (λ i. e.left i || list_any_take p n xs e.right i)

  pub filter_all : (p : A → Bool) (xs : List A) → list_all p xs ≡ true → filter p xs ≡ xs
  filter_all p [] h = refl
  filter_all p (x ∷ xs) h = let e = both _ _ h in ap (λ b. cond b (x ∷ filter p xs) (filter p xs)) e.left ∙ ap (λ l. x ∷ l) (filter_all p xs e.right)

  pub filter_none : (p : A → Bool) (xs : List A) → list_any p xs ≡ false → filter p xs ≡ []
  filter_none p [] h = refl
  filter_none p (x ∷ xs) h = let e = neither _ _ h in ap (λ b. cond b (x ∷ filter p xs) (filter p xs)) e.left ∙ filter_none p xs e.right

  -- a filter keeps the middle of a list whose middle alone passes
  pub filter_middle : (p : A → Bool) (front mid back : List A) → list_any p front ≡ false → list_all p mid ≡ true → list_any p back ≡ false → filter p (front ++ (mid ++ back)) ≡ mid
  filter_middle p front mid back f m b =
      filter-append p front (mid ++ back) ∙ ap (λ l. l ++ filter p (mid ++ back)) (filter_none p front f)
      ∙ filter-append p mid back ∙ (λ i. filter_all p mid m i ++ filter_none p back b i) ∙ append-nil mid

  -- a filter over a list whose middle alone may pass
  pub filter_within : (p : A → Bool) (front mid back : List A) → list_any p front ≡ false → list_any p back ≡ false → filter p (front ++ (mid ++ back)) ≡ filter p mid
  filter_within p front mid back f b =
      filter-append p front (mid ++ back) ∙ ap (λ l. l ++ filter p (mid ++ back)) (filter_none p front f)
      ∙ filter-append p mid back ∙ ap (λ l. filter p mid ++ l) (filter_none p back b) ∙ append-nil (filter p mid)

  -- all of the front of a list pass, and all of its back
  pub all_take : (p : A → Bool) (xs : List A) (at : ℕ) → at ≤ length xs → ((j : ℕ) (d : A) → j < at → p (get_or xs j d) ≡ true) → list_all p (take at xs) ≡ true
  all_take p [] zero le f = refl
  all_take p [] (suc at) le f = absurd (omega (arith, le))
  all_take p (x ∷ xs) zero le f = refl
  all_take p (x ∷ xs) (suc at) le f = both_true _ _ (f 0 x (omega arith)) (all_take p xs at (omega (arith, le)) (λ j d lt. f (suc j) d (omega (arith, lt))))

  pub all_drop : (p : A → Bool) (xs : List A) (at : ℕ) → ((j : ℕ) (d : A) → at ≤ j → j < length xs → p (get_or xs j d) ≡ true) → list_all p (drop at xs) ≡ true
  all_drop p [] zero f = refl
  all_drop p [] (suc at) f = refl
  all_drop p (x ∷ xs) zero f = both_true _ _ (f 0 x (omega arith) (omega arith)) (all_drop p xs zero (λ j d le lt. f (suc j) d (omega arith) (omega (arith, lt))))
  all_drop p (x ∷ xs) (suc at) f = all_drop p xs at (λ j d le lt. f (suc j) d (omega (arith, le)) (omega (arith, lt)))

  -- the same of a fact
  pub each_drop : (P : A → Type 0) (xs : List A) (at : ℕ) → ((j : ℕ) (d : A) → at ≤ j → j < length xs → P (get_or xs j d)) → AllByRecursion P (drop at xs)
  each_drop P [] zero f = tt
  each_drop P [] (suc at) f = tt
  each_drop P (x ∷ xs) zero f = (f 0 x (omega arith) (omega arith), each_drop P xs zero (λ j d le lt. f (suc j) d (omega arith) (omega (arith, lt))))
  each_drop P (x ∷ xs) (suc at) f = each_drop P xs at (λ j d le lt. f (suc j) d (omega (arith, le)) (omega (arith, lt)))

  pub each_at : (P : A → Type 0) (xs : List A) → AllByRecursion P xs → (j : ℕ) (d : A) → j < length xs → P (get_or xs j d)
  each_at P [] h j d lt = absurd (omega (arith, lt))
  each_at P (x ∷ xs) h zero d lt = h.0
  each_at P (x ∷ xs) h (suc j) d lt = each_at P xs h.1 j d (omega (arith, lt))

  pub each_mono : (P Q : A → Type 0) → ((x : A) → P x → Q x) → (xs : List A) → AllByRecursion P xs → AllByRecursion Q xs
  each_mono P Q f [] h = tt
  each_mono P Q f (x ∷ xs) h = (f x h.0, each_mono P Q f xs h.1)

  -- an element that passes stands in the front where none of the back passes
  pub in_front : (p : A → Bool) (xs : List A) (n : ℕ) → list_any p (drop n xs) ≡ false → (k : ℕ) (d : A) → k < length xs → p (get_or xs k d) ≡ true → k < n
  in_front p [] n h k d lt e = absurd (omega (arith, lt))
  in_front p (x ∷ xs) zero h zero d lt e = cc (e, (neither (p x) (list_any p xs) h).left)
  in_front p (x ∷ xs) zero h (suc k) d lt e = absurd (none xs (neither (p x) (list_any p xs) h).right k (omega (arith, lt)) e)
    where
      none : (ys : List A) → list_any p ys ≡ false → (j : ℕ) → j < length ys → p (get_or ys j d) ≡ true → ⊥
      none [] h j lt e = absurd (omega (arith, lt))
      none (y ∷ ys) h zero lt e = cc (e, (neither (p y) (list_any p ys) h).left)
      none (y ∷ ys) h (suc j) lt e = none ys (neither (p y) (list_any p ys) h).right j (omega (arith, lt)) e
  in_front p (x ∷ xs) (suc n) h zero d lt e = omega arith
  in_front p (x ∷ xs) (suc n) h (suc k) d lt e = omega (arith, in_front p xs n h k d (omega (arith, lt)) e)

  pub all_insert : (p : A → Bool) (xs : List A) (at : ℕ) (x : A) → list_all p xs ≡ true → p x ≡ true → list_all p (insert xs at x) ≡ true
  all_insert p [] zero x h e = both_true _ _ e refl
  all_insert p [] (suc at) x h e = both_true _ _ e refl
  all_insert p (y ∷ xs) zero x h e = both_true _ _ e h
  all_insert p (y ∷ xs) (suc at) x h e = let k = both _ _ h in both_true _ _ k.left (all_insert p xs at x k.right e)

  pub all_remove : (p : A → Bool) (xs : List A) (at : ℕ) → list_all p xs ≡ true → list_all p (remove xs at) ≡ true
  all_remove p [] zero h = refl
  all_remove p [] (suc at) h = refl
  all_remove p (y ∷ xs) zero h = (both _ _ h).right
  all_remove p (y ∷ xs) (suc at) h = let k = both _ _ h in both_true _ _ k.left (all_remove p xs at k.right)

  pub each_left : (P : A → Type 0) (xs ys : List A) → AllByRecursion P (xs ++ ys) → AllByRecursion P xs
  each_left P [] ys h = tt
  each_left P (x ∷ xs) ys h = (h.0, each_left P xs ys h.1)

  pub each_right : (P : A → Type 0) (xs ys : List A) → AllByRecursion P (xs ++ ys) → AllByRecursion P ys
  each_right P [] ys h = h
  each_right P (x ∷ xs) ys h = each_right P xs ys h.1

  pub each_append : (P : A → Type 0) (xs ys : List A) → AllByRecursion P xs → AllByRecursion P ys → AllByRecursion P (xs ++ ys)
  each_append P [] ys h k = k
  each_append P (x ∷ xs) ys h k = (h.0, each_append P xs ys h.1 k)

  -- two facts of each element
  pub each_both : (P Q S : A → Type 0) → ((x : A) → P x → Q x → S x) → (xs : List A) → AllByRecursion P xs → AllByRecursion Q xs → AllByRecursion S xs
  each_both P Q S f [] h k = tt
  each_both P Q S f (x ∷ xs) h k = (f x h.0 k.0, each_both P Q S f xs h.1 k.1)

  -- a relation of all elements of one list to those of two others
  pub across_append : (r : A → A → Bool) (xs ys zs : List A) → list_all (λ x. list_all (r x) ys) xs ≡ true → list_all (λ x. list_all (r x) zs) xs ≡ true → list_all (λ x. list_all (r x) (ys ++ zs)) xs ≡ true
  across_append r [] ys zs h k = refl
  across_append r (x ∷ xs) ys zs h k =
      let e = both _ _ h in
      let f = both _ _ k in
      both_true _ _ (list_all_append (r x) ys zs e.left f.left) (across_append r xs ys zs e.right f.right)

  pub across_none : (r : A → A → Bool) (xs : List A) → list_all (λ x. list_all (r x) []) xs ≡ true
  across_none r [] = refl
  across_none r (x ∷ xs) = across_none r xs
