-- A refusal is made of a front, a number or a prefix, and a line feed.
use Rattle.std.proofs.Common.{◌≡◌, ℕ, List, [], ◌∷◌, ◌++◌, Result, Ok, Err, OnOk, sym, ap, ◌∙◌, append_assoc}

pub three_pieces : {T E : Type 0} (r : Result T E) (old front text now last : List ℕ) → now ≡ (old ++ front) ++ text → OnOk r (last ≡ now ++ 10 ∷ []) → OnOk r (last ≡ old ++ (front ++ (text ++ 10 ∷ [])))
three_pieces (Ok x) old front text now last is h = h ∙ ap (λ l. l ++ 10 ∷ []) is ∙ append_assoc (old ++ front) text (10 ∷ []) ∙ append_assoc old front (text ++ 10 ∷ [])
three_pieces (Err e) old front text now last is h = h

-- two pieces with a blank between
pub five_pieces : {T E : Type 0} (r : Result T E) (old front text number : List ℕ) (one two three last : List ℕ)
    → one ≡ (old ++ front) ++ text → two ≡ one ++ 32 ∷ [] → three ≡ two ++ number → OnOk r (last ≡ three ++ 10 ∷ [])
    → OnOk r (last ≡ old ++ (front ++ ((text ++ 32 ∷ number) ++ 10 ∷ [])))
five_pieces (Ok x) old front text number one two three last a b c h =
    h ∙ ap (λ l. l ++ 10 ∷ []) (c ∙ ap (λ l. l ++ number) (b ∙ ap (λ l. l ++ 32 ∷ []) a))
    ∙ append_assoc (((old ++ front) ++ text) ++ 32 ∷ []) number (10 ∷ [])
    ∙ append_assoc ((old ++ front) ++ text) (32 ∷ []) (number ++ 10 ∷ [])
    ∙ append_assoc (old ++ front) text (32 ∷ [] ++ (number ++ 10 ∷ []))
    ∙ append_assoc old front (text ++ (32 ∷ [] ++ (number ++ 10 ∷ [])))
    ∙ ap (λ l. old ++ (front ++ l)) (sym (append_assoc text (32 ∷ number) (10 ∷ [])))
five_pieces (Err x) old front text number one two three last a b c h = h

-- three pieces with a blank between
pub six_pieces : {T E : Type 0} (r : Result T E) (old front number prefix max : List ℕ) (one two three four five last : List ℕ)
    → one ≡ (old ++ front) ++ number → two ≡ one ++ 32 ∷ [] → three ≡ two ++ prefix → four ≡ three ++ 32 ∷ [] → five ≡ four ++ max → OnOk r (last ≡ five ++ 10 ∷ [])
    → OnOk r (last ≡ old ++ (front ++ ((number ++ 32 ∷ (prefix ++ 32 ∷ max)) ++ 10 ∷ [])))
six_pieces (Ok x) old front number prefix max one two three four five last a b c d e h =
    h ∙ ap (λ l. l ++ 10 ∷ []) (e ∙ ap (λ l. l ++ max) (d ∙ ap (λ l. l ++ 32 ∷ []) (c ∙ ap (λ l. l ++ prefix) (b ∙ ap (λ l. l ++ 32 ∷ []) a))))
    ∙ append_assoc ((((((old ++ front) ++ number) ++ 32 ∷ []) ++ prefix) ++ 32 ∷ [])) max (10 ∷ [])
    ∙ append_assoc (((((old ++ front) ++ number) ++ 32 ∷ []) ++ prefix)) (32 ∷ []) (max ++ 10 ∷ [])
    ∙ append_assoc ((((old ++ front) ++ number) ++ 32 ∷ [])) prefix (32 ∷ [] ++ (max ++ 10 ∷ []))
    ∙ append_assoc (((old ++ front) ++ number)) (32 ∷ []) (prefix ++ (32 ∷ [] ++ (max ++ 10 ∷ [])))
    ∙ append_assoc (old ++ front) number (32 ∷ [] ++ (prefix ++ (32 ∷ [] ++ (max ++ 10 ∷ []))))
    ∙ append_assoc old front (number ++ (32 ∷ [] ++ (prefix ++ (32 ∷ [] ++ (max ++ 10 ∷ [])))))
    ∙ ap (λ l. old ++ (front ++ (number ++ 32 ∷ l))) (sym (append_assoc prefix (32 ∷ max) (10 ∷ [])))
    ∙ ap (λ l. old ++ (front ++ l)) (sym (append_assoc number (32 ∷ (prefix ++ 32 ∷ max)) (10 ∷ [])))
six_pieces (Err x) old front number prefix max one two three four five last a b c d e h = h
