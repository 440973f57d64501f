-- Printed numbers are read again, and a text is cut again where two were joined.
use Rattle.std.proofs.Common.{◌≡◌, ℕ, zero, suc, ◌^◌, ◌<◌, ◌≤◌, Bool, true, false, ◌&&◌, List, [], ◌∷◌, ◌++◌, length, get_or, Some, None, refl, ap, sym, subst, ◌∙◌, inl, inr, arith, eq-eqb, lit<, lit≤}
use Rattle.std.specs.Prelude.{bytes_eq, decimal, nat_eq, nat_lt, nat_le, not, ◌||◌, if◌then◌else◌, ◌==◌}
use Rattle.std.specs.List.{list_all, join_with_byte, All}
use Rattle.std.specs.Char.{is_digit, digit_value}
use Rattle.std.specs.Str.Parse.{AllDigits, digits_value, IsNumeral}
use Rattle.std.proofs.lemmas.Bool.{lt-ltb, lt-leb, le-leb, le-ltb, ltb-true, ltb-false, leb-true, eqb-true, and_parts, cases_lt}
use Rattle.std.proofs.lemmas.Fmt.{decimal_digit, decimal_is_IsNumeral, decimal-digits_value, length-decimal-le, first_decimal}
use Rattle.std.proofs.lemmas.List.Splits.{slice_split_at, join_with_byte-slice_split}
use Rattle.std.specs.Bool.{then_some}
use Rattle.std.proofs.lemmas.Option.{none-some}
use Rattle.std.proofs.lemmas.Str.Parse.{numerals_by_value, tells_digits}
use Rattle.net_names.specs.Steps.{◌>>=◌, option_filter}
use Rattle.net_names.specs.Texts.{numeral, cut_at, fields}
use Rattle.net_names.proofs.Numerals.{all_digits, small as small_value}
use Rattle.net_names.proofs.Cuts.{fields_cut, fields_uncut}

-- ---- numbers

pub numeral_again : (radix most : ℕ) (text : List ℕ) (n : ℕ) → 0 < length text → length text ≤ most → list_all (λ c. is_digit c radix) text ≡ true → digits_value radix text ≡ n → numeral radix most text ≡ Some n
unfolding numeral
numeral_again radix most text n some few digits value =
    let a : nat_lt 0 (length text) ≡ true = lt-ltb 0 (length text) some in
    let b : nat_le (length text) most ≡ true = le-leb (length text) most few in
    rw (a, b, digits, value) refl

pub list_digits : (radix : ℕ) (text : List ℕ) → AllDigits radix text → list_all (λ c. is_digit c radix) text ≡ true
list_digits radix [] h = refl
list_digits radix (c ∷ cs) h = let t : is_digit c radix ≡ true = lt-ltb (digit_value c) radix h.0 in rw (t, list_digits radix cs h.1) refl

not_first : (b : Bool) (x : ℕ) → 48 < x → (b && (x == 48)) ≡ false
not_first false x h = refl
not_first true x h =
    (elim (x == 48) as (λ v. (x == 48) ≡ v → (x == 48) ≡ false) [
      | true ↦ λ e. let q : x ≡ 48 = eqb-true x 48 e in absurd (omega (arith, q, h))
      | false ↦ λ e. e
    ]) refl

lead_free : (n : ℕ) → n < 1000 → (nat_lt 1 (length (decimal n)) && (get_or (decimal n) 0 0 == 48)) ≡ false
lead_free zero h = rw (decimal_digit 0 (lit< tt)) refl
lead_free (suc n) h = not_first (nat_lt 1 (length (decimal (suc n)))) (get_or (decimal (suc n)) 0 0) (first_decimal (suc n) (omega arith) (omega (arith, h)))

pub short_again : (n : ℕ) → n < 1000 → numeral 10 3 (decimal n) ≡ Some n
short_again n small =
    let m : IsNumeral 10 (decimal n) × (digits_value 10 (decimal n) ≡ n) = decimal_is_IsNumeral n (omega (arith, small)) in
    let l : length (decimal n) ≤ 3 = length-decimal-le 3 n (omega arith) (omega (arith, small)) (omega (arith, small)) in
    numeral_again 10 3 (decimal n) n m.0.0 l (list_digits 10 (decimal n) m.0.1) m.1

pub bytes_eq_same : (text : List ℕ) → bytes_eq text text ≡ true
bytes_eq_same [] = refl
bytes_eq_same (b ∷ bs) = rw (eq-eqb b b refl) (bytes_eq_same bs)

pub same_bytes : (a b : List ℕ) → bytes_eq a b ≡ true → a ≡ b
same_bytes [] [] e = refl
same_bytes [] (y ∷ ys) e = absurd cc
same_bytes (x ∷ xs) [] e = absurd cc
same_bytes (x ∷ xs) (y ∷ ys) e =
    let p = and_parts (nat_eq x y) (bytes_eq xs ys) e in
    λ i. eqb-true x y p.0 i ∷ same_bytes xs ys p.1 i

-- what a numeral of up to three digits is
record IsShort (text : List ℕ) (n : ℕ) : Type 0 where
  some : 0 < length text
  few : length text ≤ 3
  digits : list_all (λ c. is_digit c 10) text ≡ true
  value : digits_value 10 text ≡ n

tested : (a b c : Bool) (v n : ℕ) → then_some (a && (b && c)) v ≡ Some n → (a ≡ true) × (b ≡ true) × (c ≡ true) × (v ≡ n)
tested true true true v n e = (refl, refl, refl, cc)
tested true true false v n e = absurd (none-some n e)
tested true false c v n e = absurd (none-some n e)
tested false b c v n e = absurd (none-some n e)

short_is : (text : List ℕ) (n : ℕ) → numeral 10 3 text ≡ Some n → IsShort text n
unfolding numeral
short_is text n e =
    let t = tested (nat_lt 0 (length text)) (nat_le (length text) 3) (list_all (λ c. is_digit c 10) text) (digits_value 10 text) n e in
    record { some = ltb-true 0 (length text) t.0; few = leb-true (length text) 3 t.1; digits = t.2; value = t.3 }

no_lead : (text : List ℕ) → 0 < length text → (nat_lt 1 (length text) && (get_or text 0 0 == 48)) ≡ false → get_or text 0 0 ≡ 48 → length text ≡ 1
no_lead text some free zero_first =
    (elim (nat_lt 1 (length text)) as (λ v. nat_lt 1 (length text) ≡ v → length text ≡ 1) [
      | true ↦ λ e. let k = rw (e, zero_first) at free in absurd (cc)
      | false ↦ λ e. let k : length text ≤ 1 = ltb-false 1 (length text) e in omega (arith, k, some)
    ]) refl

-- digits are what is printed of their number exactly where they have no needless zero in front
pub plain_is : (text : List ℕ) (n : ℕ) → numeral 10 3 text ≡ Some n → bytes_eq text (decimal n) ≡ not (nat_lt 1 (length text) && (get_or text 0 0 == 48))
plain_is text n e =
    let s = short_is text n e in
    let small : digits_value 10 text < 10 ^ 3 = small_value 10 3 text (lit≤ tt) s.digits s.few in
    let below : n < 1000 = omega (arith, small, s.value) in
    (elim (nat_lt 1 (length text) && (get_or text 0 0 == 48)) as (λ v. (nat_lt 1 (length text) && (get_or text 0 0 == 48)) ≡ v → bytes_eq text (decimal n) ≡ not v) [
      | true ↦ λ lead.
          (elim (bytes_eq text (decimal n)) as (λ v. bytes_eq text (decimal n) ≡ v → bytes_eq text (decimal n) ≡ false) [
            | true ↦ λ k.
                let none : (nat_lt 1 (length text) && (get_or text 0 0 == 48)) ≡ false = subst (λ (t : List ℕ). (nat_lt 1 (length t) && (get_or t 0 0 == 48)) ≡ false) (sym (same_bytes text (decimal n) k)) (lead_free n below) in
                absurd (cc)
            | false ↦ λ k. k
          ]) refl
      | false ↦ λ free.
          let all : AllDigits 10 text = all_digits 10 text s.digits in
          let back : decimal (digits_value 10 text) ≡ text = decimal-digits_value (numerals_by_value (AllDigits 10) tells_digits) text all s.some (no_lead text s.some free) (omega (arith, small)) in
          let is : decimal n ≡ text = ap decimal (sym s.value) ∙ back in
          rw is (bytes_eq_same text)
    ]) refl

tests_alike : (lead : Bool) (limit n : ℕ) → (if not lead && nat_le n limit then Some n else None) ≡ (if lead || nat_lt limit n then None else Some n)
tests_alike true limit n = refl
tests_alike false limit n = elim (cases_lt limit n) as (λ _. (if nat_le n limit then Some n else None) ≡ (if nat_lt limit n then None else Some n)) [
  | inl less ↦ let a : nat_le n limit ≡ false = lt-leb n limit less in let b : nat_lt limit n ≡ true = lt-ltb limit n less in rw (a, b) refl
  | inr more ↦ let a : nat_le n limit ≡ true = le-leb n limit more in let b : nat_lt limit n ≡ false = le-ltb limit n more in rw (a, b) refl
]

-- the number of up to three digits, by tests on the text
pub plain_by_tests : (text : List ℕ) (limit : ℕ) → option_filter (λ n. bytes_eq text (decimal n) && nat_le n limit) (numeral 10 3 text)
    ≡ (numeral 10 3 text >>= λ n. if (nat_lt 1 (length text) && (get_or text 0 0 == 48)) || nat_lt limit n then None else Some n)
plain_by_tests text limit =
    (elim (numeral 10 3 text) as (λ v. numeral 10 3 text ≡ v → option_filter (λ n. bytes_eq text (decimal n) && nat_le n limit) v ≡ (v >>= λ n. if (nat_lt 1 (length text) && (get_or text 0 0 == 48)) || nat_lt limit n then None else Some n)) [
      | None ↦ λ e. refl
      | Some n ↦ λ e. rw (plain_is text n e) (tests_alike (nat_lt 1 (length text) && (get_or text 0 0 == 48)) limit n)
    ]) refl

-- ---- cutting

some_parts : (byte : ℕ) (t : List ℕ) → (x : List ℕ) × (xs : List (List ℕ)) × (fields byte t ≡ x ∷ xs)
some_parts byte t =
    (elim (cut_at byte t) as (λ v. cut_at byte t ≡ v → (x : List ℕ) × (xs : List (List ℕ)) × (fields byte t ≡ x ∷ xs)) [
      | None ↦ λ e. (t, [], fields_uncut byte t e)
      | Some p ↦ λ e. (p.0, fields byte p.1, fields_cut byte t p.0 p.1 e)
    ]) refl

pub cut_again : (byte : ℕ) (front back : List ℕ) → All (λ x. (x == byte) ≡ false) front → cut_at byte (front ++ (byte ∷ back)) ≡ Some (front, back)
cut_again byte front back free =
    let t : List ℕ = front ++ (byte ∷ back) in
    let f : fields byte t ≡ front ∷ fields byte back = slice_split_at (λ b. b == byte) front byte back free (eq-eqb byte byte refl) in
    (elim (cut_at byte t) as (λ v. cut_at byte t ≡ v → cut_at byte t ≡ Some (front, back)) [
      | None ↦ λ e.
          let s = some_parts byte back in
          let g : t ∷ [] ≡ front ∷ (s.0 ∷ s.1) = sym (fields_uncut byte t e) ∙ (f ∙ ap (λ (xs : List (List ℕ)). front ∷ xs) s.2) in
          absurd (cc)
      | Some p ↦ λ e.
          let g : p.0 ∷ fields byte p.1 ≡ front ∷ fields byte back = sym (fields_cut byte t p.0 p.1 e) ∙ f in
          let a : p.0 ≡ front = cc in
          let b : fields byte p.1 ≡ fields byte back = cc in
          let c : p.1 ≡ back = sym (join_with_byte-slice_split byte p.1) ∙ (ap (λ (xs : List (List ℕ)). join_with_byte byte xs) b ∙ join_with_byte-slice_split byte back) in
          e ∙ rw (← a, ← c) refl
    ]) refl
