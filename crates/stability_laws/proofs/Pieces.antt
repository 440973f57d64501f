-- What becomes good level by level becomes good in as many full pieces of a list.
use Rattle.std.proofs.Common.{◌≡◌, inl, inr, ℕ, zero, suc, ◌+◌, ◌<◌, ◌≤◌, Bool, true, ◌||◌, ◌==◌, List, [], ◌∷◌, ◌++◌, refl, sym, ◌∙◌, ap, subst, arith}
use Rattle.std.proofs.lemmas.Bool.{or_cases, or_right, eqb-true, eq-eqb}
use Rattle.std.proofs.Common.{append_assoc}
use Rattle.net_names.specs.Numbers.{occurs}
use Rattle.stability_laws.specs.Runs.{IsRunBy, HasOnly, HasPieces}

pub occurs_left : (x : ℕ) (xs ys : List ℕ) → occurs x xs ≡ true → occurs x (xs ++ ys) ≡ true
occurs_left x [] ys h = cc
occurs_left x (z ∷ xs) ys h = elim (or_cases (z == x) (occurs x xs) h) [
  | inl e ↦ ap (λ b. b || occurs x (xs ++ ys)) e
  | inr e ↦ or_right (z == x) _ (occurs_left x xs ys e)
]

pub occurs_right : (x : ℕ) (xs ys : List ℕ) → occurs x ys ≡ true → occurs x (xs ++ ys) ≡ true
occurs_right x [] ys h = h
occurs_right x (z ∷ xs) ys h = or_right (z == x) _ (occurs_right x xs ys h)

-- a run over two lists goes over the one and then over the other
pub run_append : {S : Type 0} (step : S → ℕ → S → Type 0) (xs ys : List ℕ) (f g : S) → IsRunBy step (xs ++ ys) f g → (h : S) × IsRunBy step xs f h × IsRunBy step ys h g
run_append step [] ys f g run = (f, refl, run)
run_append step (x ∷ xs) ys f g (m, first, rest) = let (h, some, more) = run_append step xs ys m g rest in (h, (m, first, some), more)

-- a run and a step more
pub run_push : {S : Type 0} (step : S → ℕ → S → Type 0) (xs : List ℕ) (a : ℕ) (f g h : S) → IsRunBy step xs f g → step g a h → IsRunBy step (xs ++ a ∷ []) f h
run_push step [] a f g h run st = (h, subst (λ t. step t a h) (sym run) st, refl)
run_push step (x ∷ xs) a f g h (m, first, rest) st = (m, first, run_push step xs a m g h rest st)

-- n and m pieces are n pieces and then m pieces
pub pieces_split : (has : ℕ → Bool) (n m k : ℕ) (xs : List ℕ) → k ≡ n + m → HasPieces has k xs → (ys : List ℕ) × (zs : List ℕ) × (xs ≡ ys ++ zs) × HasPieces has n ys × HasPieces has m zs
pieces_split has zero m k xs is p = ([], xs, refl, tt, subst (λ t. HasPieces has t xs) (let e : k ≡ m = omega arith in e) p)
pieces_split has (suc n) m zero xs is p = absurd (omega arith)
pieces_split has (suc n) m (suc k) xs is (us, vs, e, all, rest) =
    let (ys, zs, e', some, more) = pieces_split has n m k vs (omega arith) rest in
    (us ++ ys, zs, e ∙ ap (λ t. us ++ t) e' ∙ sym (append_assoc us ys zs), (us, ys, refl, all, some), more)

module _ {S : Type 0} (has : ℕ → Bool) (level : ℕ → ℕ) (step : S → ℕ → S → Type 0) (Inv : S → Type 0) (Good : S → ℕ → Type 0) where
  abbrev pub Below : ℕ → S → Type 0
  Below k f = (c : ℕ) → has c ≡ true → level c < k → Good f c

  module _ (inv : (f : S) (a : ℕ) (g : S) → has a ≡ true → step f a g → Inv f → Inv g)
      (keep : (k : ℕ) (f : S) (a : ℕ) (g : S) → has a ≡ true → step f a g → Inv f → Below k f → (b : ℕ) → has b ≡ true → level b ≤ k → Good f b → Good g b)
      (now : (f : S) (a : ℕ) (g : S) → has a ≡ true → step f a g → Inv f → Good g a) where
    below_step : (k : ℕ) (f : S) (a : ℕ) (g : S) → has a ≡ true → step f a g → Inv f → Below k f → Below k g
    below_step k f a g here st i below c c_here less = keep k f a g here st i below c c_here (omega arith) (below c c_here less)

    first_here : (x : ℕ) (xs : List ℕ) → HasOnly has (x ∷ xs) → has x ≡ true
    first_here x xs only = only x (ap (λ b. b || occurs x xs) (eq-eqb x x refl))

    rest_here : (x : ℕ) (xs : List ℕ) → HasOnly has (x ∷ xs) → HasOnly has xs
    rest_here x xs only a there = only a (or_right (x == a) _ there)

    below_run : (k : ℕ) (xs : List ℕ) (f g : S) → HasOnly has xs → IsRunBy step xs f g → Inv f → Below k f → Inv g × Below k g
    below_run k [] f g only run i below = subst (λ t. Inv t × Below k t) run (i, below)
    below_run k (x ∷ xs) f g only (h, st, rest) i below =
        let here = first_here x xs only in
        below_run k xs h g (rest_here x xs only) rest (inv f x h here st i) (below_step k f x h here st i below)

    good_run : (k : ℕ) (xs : List ℕ) (f g : S) → HasOnly has xs → IsRunBy step xs f g → Inv f → Below k f → (b : ℕ) → has b ≡ true → level b ≤ k → Good f b → Good g b
    good_run k [] f g only run i below b b_here le good = subst (λ t. Good t b) run good
    good_run k (x ∷ xs) f g only (h, st, rest) i below b b_here le good =
        let here = first_here x xs only in
        good_run k xs h g (rest_here x xs only) rest (inv f x h here st i) (below_step k f x h here st i below) b b_here le (keep k f x h here st i below b b_here le good)

    -- who takes a step becomes good, if the levels below are
    visited : (k : ℕ) (xs : List ℕ) (f g : S) → HasOnly has xs → IsRunBy step xs f g → Inv f → Below k f → (b : ℕ) → has b ≡ true → level b ≤ k → occurs b xs ≡ true → Good g b
    visited k [] f g only run i below b b_here le there = cc
    visited k (x ∷ xs) f g only (h, st, rest) i below b b_here le there =
        let here = first_here x xs only in
        let i' = inv f x h here st i in
        let below' = below_step k f x h here st i below in
        elim (or_cases (x == b) (occurs b xs) there) [
          | inl e ↦ good_run k xs h g (rest_here x xs only) rest i' below' b b_here le (subst (λ t. Good h t) (eqb-true x b e) (now f x h here st i))
          | inr e ↦ visited k xs h g (rest_here x xs only) rest i' below' b b_here le e
        ]

    -- n full pieces make n levels good
    pub settled : (n k : ℕ) (xs : List ℕ) (f g : S) → HasOnly has xs → HasPieces has n xs → IsRunBy step xs f g → Inv f → Below k f → Inv g × Below (k + n) g
    settled zero k xs f g only p run i below = subst (λ t. Inv g × Below t g) (let e : k ≡ k + 0 = omega arith in e) (below_run k xs f g only run i below)
    settled (suc n) k xs f g only (ys, zs, is, all, p) run i below =
        let (h, first, rest) = run_append step ys zs f g (subst (λ t. IsRunBy step t f g) is run) in
        let only_y : HasOnly has ys = λ a there. only a (ap (occurs a) is ∙ occurs_left a ys zs there) in
        let only_z : HasOnly has zs = λ a there. only a (ap (occurs a) is ∙ occurs_right a ys zs there) in
        let mid = below_run k ys f h only_y first i below in
        let below' : Below (suc k) h = λ c c_here less. visited k ys f h only_y first i below c c_here (omega arith) (all c c_here) in
        subst (λ t. Inv g × Below t g) (let e : suc k + n ≡ k + suc n = omega arith in e) (settled n (suc k) zs h g only_z p rest mid.0 below')
