-- The text of a path that is made cell by cell.
use Rattle.std.proofs.Common.{◌≡◌, ℕ, ◌<◌, ◌≤◌, List, [], ◌∷◌, ◌++◌, length, get_or, take, drop, decimal, ◌-◌, sym, ap, subst, ◌∙◌, append_assoc, append-nil, arith}
use Rattle.std.proofs.lemmas.List.Concat.{flat_map-cons}
use Rattle.std.proofs.lemmas.List.{take_all}
use Rattle.std.proofs.lemmas.Result.{on_ok_weaker}
use Rattle.std.specs.Prelude.{Result, Ok, Err, OnOk, OnErr}
use Rattle.reports.specs.Growth.{Grows}
use Rattle.net_names.specs.Texts.{numbers_text}
use Rattle.reports.specs.Rows.{more_numbers}

-- what grows twice has grown
pub Grows-trans : (a b c : List ℕ) → Grows a b → Grows b c → Grows a c
Grows-trans a b c g h = record { more = g.more ++ h.more; is = h.is ∙ ap (λ (x : List ℕ). x ++ h.more) g.is ∙ append_assoc a g.more h.more }

-- what stays as it was has grown by nothing
pub stayed : (a b : List ℕ) → b ≡ a → Grows a b
stayed a b same = record { more = []; is = same ∙ sym (append-nil a) }

-- what grows after a text has grown
pub grown : (a b c text : List ℕ) → b ≡ a ++ text → Grows b c → Grows a c
grown a b c text is g = Grows-trans a b c (record { more = text; is = is }) g

-- so it has where there is an error
pub grown_on : {X E : Type 0} (r : Result X E) (a b c text : List ℕ) → b ≡ a ++ text → Grows b c → OnErr r (Grows a c)
grown_on (Ok x) a b c text is g = tt
grown_on (Err e) a b c text is g = grown a b c text is g

-- the first number of a path, and the others each after a space
pub numbers_text-cons : (n : ℕ) (ns : List ℕ) → numbers_text (n ∷ ns) ≡ decimal n ++ more_numbers ns
numbers_text-cons n [] = sym (append-nil (decimal n))
numbers_text-cons n (m ∷ ms) =
    ap (λ (t : List ℕ). decimal n ++ (32 ∷ t)) (numbers_text-cons m ms)
    ∙ ap (λ (t : List ℕ). decimal n ++ t) (sym (flat_map-cons (λ (m : ℕ). 32 ∷ decimal m) m ms))

-- the first number is told
pub told_first : (xs : List ℕ) (first : ℕ) (out new : List ℕ) → 0 < length xs → first ≡ get_or xs 0 0 → new ≡ out ++ decimal first → new ++ more_numbers (drop 1 xs) ≡ out ++ numbers_text xs
told_first [] first out new some is made = absurd (omega (arith, some))
told_first (x ∷ xs) first out new some is made =
    ap (λ (l : List ℕ). l ++ more_numbers xs) (made ∙ ap (λ (m : ℕ). out ++ decimal m) is)
    ∙ append_assoc out (decimal x) (more_numbers xs)
    ∙ ap (λ (t : List ℕ). out ++ t) (sym (numbers_text-cons x xs))

-- all numbers of a list are told after the first
pub told_all : {X E : Type 0} (r : Result X E) (xs : List ℕ) (first : ℕ) (out mid new : List ℕ) → 0 < length xs → first ≡ get_or xs 0 first → mid ≡ out ++ decimal first
    → OnOk r (new ≡ mid ++ more_numbers (take (length xs - 1) (drop 1 xs))) → OnOk r (new ≡ out ++ numbers_text xs)
told_all r [] first out mid new some is made h = absurd (omega (arith, some))
told_all r (x ∷ xs) first out mid new some is made h =
    let all : take (length (x ∷ xs) - 1) xs ≡ xs = take_all (length (x ∷ xs) - 1) xs (omega arith) in
    on_ok_weaker r (λ told. told ∙ ap (λ (l : List ℕ). mid ++ more_numbers l) all ∙ told_first (x ∷ xs) first out mid some is made) h

-- one more number of the path
pub told_next : (xs ys : List ℕ) (first n : ℕ) (out new goal : List ℕ) → xs ≡ first ∷ ys → 0 < length ys → n ≡ get_or ys 0 0 → new ≡ out ++ (32 ∷ decimal n)
    → out ++ more_numbers (drop 1 xs) ≡ goal → new ++ more_numbers (drop 1 ys) ≡ goal
told_next xs [] first n out new goal e some is grown told = absurd (omega (arith, some))
told_next xs (y ∷ ys) first n out new goal e some is grown told =
    ap (λ (o : List ℕ). o ++ more_numbers ys) (grown ∙ ap (λ (m : ℕ). out ++ (32 ∷ decimal m)) is)
    ∙ append_assoc out (32 ∷ decimal y) (more_numbers ys)
    ∙ ap (λ (t : List ℕ). out ++ t) (sym (flat_map-cons (λ (m : ℕ). 32 ∷ decimal m) y ys))
    ∙ (let P : List ℕ → Type 0 = λ zs. out ++ more_numbers (drop 1 zs) ≡ goal in subst P e told)

-- no number is left
pub told_end : (xs out goal : List ℕ) → length xs ≤ 1 → out ++ more_numbers (drop 1 xs) ≡ goal → out ≡ goal
told_end [] out goal short told = sym (append-nil out) ∙ told
told_end (x ∷ []) out goal short told = sym (append-nil out) ∙ told
told_end (x ∷ y ∷ ys) out goal short told = absurd (omega (arith, short))
