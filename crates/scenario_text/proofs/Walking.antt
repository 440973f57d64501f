-- Going through a list as a loop does: what was given so far, and then what the rest gives.
use Rattle.std.proofs.Common.{◌≡◌, ℕ, suc, ◌+◌, ◌<◌, ◌≤◌, List, [], ◌∷◌, ◌++◌, length, get_or, drop, map, Option, Some, None, Result, Ok, Err, refl, ap, sym, ◌∙◌, append_assoc, length-append, add-one, drop-cons, arith}
use Rattle.std.proofs.lemmas.List.{append-nil}
use Rattle.std.proofs.Math.ListN.{drop_of_length-le}
use Rattle.std.specs.Prelude.{fold}
use Rattle.std.specs.List.{enumerate_from}
use Rattle.std.specs.Option.{option_or}
use Rattle.std.specs.Result.{result_err, ok_prefix}
use Rattle.std.proofs.lemmas.List.Folds.{fold_stays}
use Rattle.net_names.specs.Steps.{unless, first_fault}
use Rattle.scenario_text.specs.Walks.{◌>>=◌, each_from}

-- the values, unless one is a fault: the first fault then
abbrev pub values_or_fault : {B E : Type 0} → List (Result B E) → Result (List B) E
values_or_fault rs = unless (fold option_or None (map result_err rs)) (Ok (ok_prefix rs))

one_more : {B E : Type 0} (r : Result B E) (rs : List (Result B E)) → values_or_fault (r ∷ rs) ≡ (r >>= λ y. values_or_fault rs >>= λ ys. Ok (y ∷ ys))
one_more {E = E} (Ok y) rs = behind (fold option_or None (map result_err rs))
  where
    behind : (o : Option E) → unless o (Ok (y ∷ ok_prefix rs)) ≡ (unless o (Ok (ok_prefix rs)) >>= λ ys. Ok (y ∷ ys))
    behind None = refl
    behind (Some e) = refl
one_more (Err e) rs = rw (fold_stays option_or (Some e) (λ x. refl) (map result_err rs)) refl

pub each_from-values : {A B E : Type 0} (f : ℕ → A → Result B E) (i : ℕ) (xs : List A) → values_or_fault (map (λ x. f x.0 x.1) (enumerate_from i xs)) ≡ each_from f i xs
unfolding each_from
each_from-values f i [] = refl
each_from-values {A = A} {B = B} {E = E} f i (x ∷ xs) =
    let rest : values_or_fault (map (λ x. f x.0 x.1) (enumerate_from (i + 1) xs)) ≡ each_from f (suc i) xs = rw add-one (each_from-values f (suc i) xs) in
    one_more (f i x) (map (λ x. f x.0 x.1) (enumerate_from (i + 1) xs)) ∙ ap (λ (r : Result (List B) E). f i x >>= λ y. r >>= λ ys. Ok (y ∷ ys)) rest

-- the test passed, whatever it gave
abbrev pub passed : {A E : Type 0} → Result A E → Result (Unit {0}) E
passed r = r >>= λ _. Ok tt

pub passed-cons : {A E : Type 0} (x : A) (r : Result (List A) E) → passed (r >>= λ xs. Ok (x ∷ xs)) ≡ passed r
passed-cons x (Ok xs) = refl
passed-cons x (Err e) = refl

-- a test that found this, if anything
abbrev pub tested : {E : Type 0} → Option E → Result (Unit {0}) E
tested found = unless found (Ok tt)

-- tests of one item after the other, the first fault of which counts
pub passed-first_fault : {A E : Type 0} (g : ℕ → A → Option E) (before xs : List A) → passed (each_from (λ i x. tested (g i x)) (length before) xs) ≡ tested (first_fault (λ before x. g (length before) x) before xs)
unfolding each_from
passed-first_fault g before [] = refl
passed-first_fault {E = E} g before (x ∷ xs) =
    let longer : length (before ++ x ∷ []) ≡ suc (length before) = omega (arith, length-append before (x ∷ [])) in
    by_fault (g (length before) x) (rw longer at (passed-first_fault g (before ++ x ∷ []) xs))
  where
    by_fault : (o : Option E) → passed (each_from (λ i x. tested (g i x)) (suc (length before)) xs) ≡ tested (first_fault (λ before x. g (length before) x) (before ++ x ∷ []) xs)
        → passed (tested o >>= λ y. each_from (λ i x. tested (g i x)) (suc (length before)) xs >>= λ ys. Ok (y ∷ ys))
        ≡ tested (option_or o (first_fault (λ before x. g (length before) x) (before ++ x ∷ []) xs))
    by_fault (Some e) rest = refl
    by_fault None rest = passed-cons tt (each_from (λ i x. tested (g i x)) (suc (length before)) xs) ∙ rest

-- what a reading gives, behind these
abbrev pub with_front : {B E : Type 0} → List B → Result (List B) E → Result (List B) E
with_front front reading = reading >>= λ ys. Ok (front ++ ys)

pub with_front-nil : {B E : Type 0} (reading : Result (List B) E) → with_front [] reading ≡ reading
with_front-nil (Ok xs) = refl
with_front-nil (Err e) = refl

pub with_front-cons : {B E : Type 0} (front : List B) (x : B) (reading : Result (List B) E) → with_front front (reading >>= λ ys. Ok (x ∷ ys)) ≡ with_front (front ++ x ∷ []) reading
with_front-cons {B = B} front x (Ok ys) = ap (λ (zs : List B). Ok zs) (sym (append_assoc front (x ∷ []) ys))
with_front-cons front x (Err e) = refl

-- what was given for the items before place i, and then what f gives from there on
abbrev pub going : {A B E : Type 0} → (ℕ → A → Result B E) → List A → List B → ℕ → Result (List B) E
going f xs front i = with_front front (each_from f i (drop i xs))

pub starts : {A B E : Type 0} (f : ℕ → A → Result B E) (xs : List A) → going f xs [] 0 ≡ each_from f 0 xs
starts f xs = with_front-nil (each_from f 0 xs)

pub goes_on : {A B E : Type 0} (f : ℕ → A → Result B E) (xs : List A) (front : List B) (i : ℕ) (d : A) (y : B) (whole : Result (List B) E) → i < length xs → f i (get_or xs i d) ≡ Ok y
    → going f xs front i ≡ whole → going f xs (front ++ y ∷ []) (i + 1) ≡ whole
unfolding each_from
goes_on f xs front i d y whole lt e so_far =
    let one : going f xs front i ≡ with_front front (each_from f (suc i) (drop (suc i) xs) >>= λ ys. Ok (y ∷ ys)) = rw (drop-cons xs i d, e) refl in
    rw add-one (sym (with_front-cons front y (each_from f (suc i) (drop (suc i) xs))) ∙ sym one ∙ so_far)

pub stops : {A B E : Type 0} (f : ℕ → A → Result B E) (xs : List A) (front : List B) (i : ℕ) (d : A) (e : E) (whole : Result (List B) E) → i < length xs → f i (get_or xs i d) ≡ Err e
    → going f xs front i ≡ whole → whole ≡ Err e
unfolding each_from
stops f xs front i d e whole lt h so_far =
    let one : going f xs front i ≡ Err e = rw (drop-cons xs i d, h) refl in sym so_far ∙ one

pub ends : {A B E : Type 0} (f : ℕ → A → Result B E) (xs : List A) (front : List B) (i : ℕ) (whole : Result (List B) E) → length xs ≤ i
    → going f xs front i ≡ whole → whole ≡ Ok front
unfolding each_from
ends {B = B} f xs front i whole le so_far =
    let one : going f xs front i ≡ Ok front = rw (drop_of_length-le xs {i = i} le) (ap (λ (zs : List B). Ok zs) (append-nil front)) in sym so_far ∙ one

-- one more item is read, the item fails, or none is left
pub next_read : {A B E : Type 0} (f : ℕ → A → Result B E) (front : List B) (x : A) (xs : List A) (y : B) → f (length front) x ≡ Ok y
    → with_front front (each_from f (length front) (x ∷ xs)) ≡ with_front (front ++ y ∷ []) (each_from f (length (front ++ y ∷ [])) xs)
unfolding each_from
next_read f front x xs y e =
    let longer : length (front ++ y ∷ []) ≡ suc (length front) = omega (arith, length-append front (y ∷ [])) in
    rw (e, longer) (with_front-cons front y (each_from f (suc (length front)) xs))

pub next_fails : {A B E : Type 0} (f : ℕ → A → Result B E) (front : List B) (x : A) (xs : List A) (e : E) → f (length front) x ≡ Err e → with_front front (each_from f (length front) (x ∷ xs)) ≡ Err e
unfolding each_from
next_fails f front x xs e h = rw h refl

pub none_left : {A B E : Type 0} (f : ℕ → A → Result B E) (front : List B) → with_front front (each_from f (length front) []) ≡ Ok front
unfolding each_from
none_left {B = B} f front = ap (λ (zs : List B). Ok zs) (append-nil front)
