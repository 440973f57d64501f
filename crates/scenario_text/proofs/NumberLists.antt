-- Lists of numbers with one space between, each number in the same grammar, read one after the other.
use Rattle.std.proofs.Common.{◌≡◌, ℕ, ◌+◌, ◌<◌, true, false, Bool, List, [], ◌∷◌, ◌++◌, length, map, Option, Some, None, refl, ap, sym, ◌∙◌, append_assoc, arith, length-append}
use Rattle.std.specs.Prelude.{nat_le, suc, ◌&&◌, if◌then◌else◌}
use Rattle.std.specs.Bool.{then_some}
use Rattle.std.specs.List.{list_all}
use Rattle.std.specs.Option.{is_some, some_prefix}
use Rattle.std.proofs.lemmas.Bool.{le-leb, lt-leb}
use Rattle.net_names.specs.Steps.{◌>>=◌}
use Rattle.net_names.specs.Texts.{cut_at, fields}
use Rattle.net_names.proofs.Cuts.{fields_uncut, fields_cut}
use Rattle.scenario_text.specs.Forms.{few_numbers}

-- the numbers that the rest of the text writes, behind those so far, where all are at most so many
abbrev pub numbers_on : ℕ → List ℕ → Option (List ℕ) → Option (List ℕ)
numbers_on most front numbers = numbers >>= λ ns. if nat_le (length front + length ns) most then Some (front ++ ns) else None

-- the values, where each is one
abbrev all_some : {A : Type 0} → List (Option A) → Option (List A)
all_some [] = Some []
all_some (o ∷ os) = o >>= λ x. all_some os >>= λ xs. Some (x ∷ xs)

-- the numbers that a text writes, however many they are
abbrev pub numbers_in : (List ℕ → Option ℕ) → List ℕ → Option (List ℕ)
numbers_in number text = all_some (map number (fields 32 text))

starts_with : (most : ℕ) (os : Option (List ℕ)) → numbers_on most [] os ≡ (os >>= λ ns. if nat_le (length ns) most then Some ns else None)
starts_with most None = refl
starts_with most (Some ns) = let e : 0 + length ns ≡ length ns = omega arith in rw e refl

-- where each is a value, the values before the first that is none are all of them
all_are : (os : List (Option ℕ)) → all_some os ≡ then_some (list_all is_some os) (some_prefix os)
all_are [] = refl
all_are (None ∷ os) = refl
all_are (Some n ∷ os) = ap (λ (o : Option (List ℕ)). o >>= λ xs. Some (n ∷ xs)) (all_are os) ∙ in_front (list_all is_some os)
  where
    in_front : (b : Bool) → (then_some b (some_prefix os) >>= λ xs. Some (n ∷ xs)) ≡ then_some b (n ∷ some_prefix os)
    in_front true = refl
    in_front false = refl

length-some_prefix : (os : List (Option ℕ)) → list_all is_some os ≡ true → length (some_prefix os) ≡ length os
length-some_prefix [] e = refl
length-some_prefix (None ∷ os) e = absurd (cc)
length-some_prefix (Some n ∷ os) e = ap (λ (k : ℕ). suc k) (length-some_prefix os e)

few_or_not : (test : Bool) (ns : List ℕ) → (if test then Some ns else None) ≡ then_some test ns
few_or_not true ns = refl
few_or_not false ns = refl

limited : (os : List (Option ℕ)) (all : Bool) → list_all is_some os ≡ all
    → (then_some all (some_prefix os) >>= λ ns. if nat_le (length ns) 64 then Some ns else None) ≡ then_some (all && nat_le (length os) 64) (some_prefix os)
limited os true e = rw (length-some_prefix os e) (few_or_not (nat_le (length os) 64) (some_prefix os))
limited os false e = refl

pub starts : (number : List ℕ → Option ℕ) (text : List ℕ) → numbers_on 64 [] (numbers_in number text) ≡ few_numbers number text
unfolding few_numbers
starts number text =
    let os = map number (fields 32 text) in
    starts_with 64 (all_some os) ∙ ap (λ (o : Option (List ℕ)). o >>= λ ns. if nat_le (length ns) 64 then Some ns else None) (all_are os) ∙ limited os (list_all is_some os) refl

push : (most : ℕ) (front : List ℕ) (n : ℕ) (os : Option (List ℕ)) → numbers_on most front (os >>= λ ns. Some (n ∷ ns)) ≡ numbers_on most (front ++ n ∷ []) os
push most front n None = refl
push most front n (Some ns) = let e : length (front ++ n ∷ []) + length ns ≡ length front + length (n ∷ ns) = omega (arith, length-append front (n ∷ [])) in rw (e, append_assoc front (n ∷ []) ns) refl

pub goes_on : (number : List ℕ → Option ℕ) (most : ℕ) (front rest word more : List ℕ) (n : ℕ) (whole : Option (List ℕ)) → Some (word, more) ≡ cut_at 32 rest → Some n ≡ number word
    → numbers_on most front (numbers_in number rest) ≡ whole → numbers_on most (front ++ n ∷ []) (numbers_in number more) ≡ whole
goes_on number most front rest word more n whole c e so_far =
    let f = fields_cut 32 rest word more (sym c) in
    let one : numbers_on most front (numbers_in number rest) ≡ numbers_on most front (numbers_in number more >>= λ ns. Some (n ∷ ns)) = rw (f, ← e) refl in
    sym (push most front n (numbers_in number more)) ∙ sym one ∙ so_far

pub stops : (number : List ℕ → Option ℕ) (most : ℕ) (front rest word more : List ℕ) (whole : Option (List ℕ)) → Some (word, more) ≡ cut_at 32 rest → None ≡ number word
    → numbers_on most front (numbers_in number rest) ≡ whole → None ≡ whole
stops number most front rest word more whole c e so_far =
    let f = fields_cut 32 rest word more (sym c) in
    let one : numbers_on most front (numbers_in number rest) ≡ None = rw (f, ← e) refl in
    sym one ∙ so_far

pub unread : (number : List ℕ → Option ℕ) (most : ℕ) (front rest : List ℕ) (whole : Option (List ℕ)) → None ≡ cut_at 32 rest → None ≡ number rest → numbers_on most front (numbers_in number rest) ≡ whole → None ≡ whole
unread number most front rest whole c e so_far =
    let f = fields_uncut 32 rest (sym c) in
    let one : numbers_on most front (numbers_in number rest) ≡ None = rw (f, ← e) refl in
    sym one ∙ so_far

pub last : (number : List ℕ → Option ℕ) (most : ℕ) (front rest : List ℕ) (n : ℕ) (whole : Option (List ℕ)) → None ≡ cut_at 32 rest → Some n ≡ number rest → length front < most
    → numbers_on most front (numbers_in number rest) ≡ whole → Some (front ++ n ∷ []) ≡ whole
last number most front rest n whole c e short so_far =
    let f = fields_uncut 32 rest (sym c) in
    let t : nat_le (length front + 1) most ≡ true = le-leb (length front + 1) most (omega (arith, short)) in
    let one : numbers_on most front (numbers_in number rest) ≡ Some (front ++ n ∷ []) = rw (f, ← e, t) refl in
    sym one ∙ so_far

too_many : (most : ℕ) (front : List ℕ) (o : Option ℕ) (os : Option (List ℕ)) → length front ≡ most → numbers_on most front (o >>= λ n. os >>= λ ns. Some (n ∷ ns)) ≡ None
too_many most front None os e = refl
too_many most front (Some n) None e = refl
too_many most front (Some n) (Some ns) e = let t : nat_le (length front + length (n ∷ ns)) most ≡ false = lt-leb _ _ (omega (arith, e)) in rw t refl

pub full : (number : List ℕ → Option ℕ) (most : ℕ) (front rest : List ℕ) (whole : Option (List ℕ)) → length front ≡ most → numbers_on most front (numbers_in number rest) ≡ whole → None ≡ whole
full number most front rest whole e so_far =
    (elim (cut_at 32 rest) as (λ v. cut_at 32 rest ≡ v → None ≡ whole) [
      | None ↦ λ c. let one : numbers_on most front (numbers_in number rest) ≡ None = rw (fields_uncut 32 rest c) (too_many most front (number rest) (Some []) e) in sym one ∙ so_far
      | Some p ↦ λ c. let one : numbers_on most front (numbers_in number rest) ≡ None = rw (fields_cut 32 rest p.0 p.1 c) (too_many most front (number p.0) (numbers_in number p.1) e) in sym one ∙ so_far
    ]) refl
