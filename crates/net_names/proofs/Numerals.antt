-- Digits from the front on.
use Rattle.std.proofs.Common.{◌≡◌, ℕ, ◌+◌, ◌*◌, ◌^◌, ◌<◌, ◌≤◌, true, List, [], ◌∷◌, length, take, get_or, arith, lit≤, refl, add-one}
use Rattle.std.proofs.Math.Nat.{pow-le-pow_right, mul-le-mul, pow-suc}
use Rattle.std.specs.Char.{is_digit, digit_value}
use Rattle.std.specs.List.{list_all}
use Rattle.std.specs.Str.Parse.{digits_value, AllDigits}
use Rattle.std.proofs.lemmas.Bool.{lt-ltb, ltb-true, and_parts}
use Rattle.std.proofs.lemmas.List.Folds.{list_all_more}
use Rattle.std.proofs.lemmas.Int.Digits.{digits_value-lt}

pub more : (n i radix d : ℕ) → n < 16 ^ i → radix ≤ 16 → d < radix → n * radix + d < 16 ^ (i + 1)
more n i radix d small r lt =
    let a : (n + 1) * radix ≤ 16 ^ i * 16 = mul-le-mul {n₁ = n + 1} {m₁ = radix} {n₂ = 16 ^ i} {m₂ = 16} (omega (arith, small)) r in
    let b : 16 ^ (i + 1) ≡ 16 ^ i * 16 = rw add-one (pow-suc 16 i) in
    let e : (n + 1) * radix ≡ n * radix + radix = grind arith in
    omega (arith, a, b, e, lt)

pub more_decimal : (n i d : ℕ) → n < 10 ^ i → d < 10 → n * 10 + d < 10 ^ (i + 1)
more_decimal n i d small lt =
    let b : 10 ^ (i + 1) ≡ 10 ^ i * 10 = rw add-one (pow-suc 10 i) in
    omega (arith, small, b, lt)

-- ten digits at most fit
pub within : (n i radix d : ℕ) → n < 16 ^ i → radix ≤ 16 → d < radix → i < 10 → n * radix + d < 2 ^ 40
within n i radix d small r lt short =
    let a : n * radix + d < 16 ^ (i + 1) = more n i radix d small r lt in
    let b : 16 ^ (i + 1) ≤ 16 ^ 10 = pow-le-pow_right {n = 16} (lit≤ tt) {i = i + 1} {j = 10} (omega (arith, short)) in
    omega (arith, a, b)

pub digits_go_on : (radix i : ℕ) (text : List ℕ) → i < length text → list_all (λ c. is_digit c radix) (take i text) ≡ true → digit_value (get_or text i 0) < radix
    → list_all (λ c. is_digit c radix) (take (i + 1) text) ≡ true
digits_go_on radix i text lt so_far d =
    let e = list_all_more (λ c. is_digit c radix) text i 0 lt in
    let t : is_digit (get_or text i 0) radix ≡ true = lt-ltb (digit_value (get_or text i 0)) radix d in
    rw (e, so_far, t) refl

pub all_digits : (radix : ℕ) (text : List ℕ) → list_all (λ c. is_digit c radix) text ≡ true → AllDigits radix text
all_digits radix [] h = tt
all_digits radix (c ∷ cs) h = let p = and_parts (is_digit c radix) (list_all (λ x. is_digit x radix) cs) h in (ltb-true (digit_value c) radix p.0, all_digits radix cs p.1)

pub small : (radix most : ℕ) (text : List ℕ) → 2 ≤ radix → list_all (λ c. is_digit c radix) text ≡ true → length text ≤ most → digits_value radix text < radix ^ most
small radix most text low h short =
    let a : digits_value radix text < radix ^ length text = digits_value-lt radix text (all_digits radix text h) in
    let b : radix ^ length text ≤ radix ^ most = pow-le-pow_right {n = radix} (omega (arith, low)) {i = length text} {j = most} short in
    omega (arith, a, b)
