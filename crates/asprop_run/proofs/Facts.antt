-- Facts one after the other are one text.
use Rattle.std.proofs.Common.{◌≡◌, Bool, false, [], ◌∷◌, ◌++◌, ℕ, codes, decimal, ◌==◌, sym, ap, ◌∙◌, append_assoc, if◌then◌else◌, Option, Result, Ok, Err, OnOk}
use Rattle.clap.specs.Walk.{Text}
use Rattle.stability_laws.specs.EntryTexts.{entry_row}
use Rattle.stability_laws.specs.declared.entry.Entry.{Entry}
use Rattle.asprop_run.specs.Delivering.{message_rows}
use Rattle.asprop_run.specs.Settling.{fact, said, acts_rows}

pub counts_text : (n m : ℕ) → codes "ases|" ++ (decimal n ++ 10 ∷ (codes "links|" ++ (decimal m ++ 10 ∷ []))) ≡ fact "ases" n ++ fact "links" m
counts_text n m = ap (λ t. codes "ases|" ++ t) (sym (append_assoc (decimal n) (10 ∷ []) (fact "links" m)))

pub settled_text : (pieces height : ℕ) (settled : Bool) (word : Text) → word ≡ codes (if settled then "yes" else "no")
    → codes "pieces|" ++ (decimal pieces ++ 10 ∷ (codes "height|" ++ (decimal height ++ 10 ∷ (codes "settled|" ++ (word ++ 10 ∷ []))))) ≡ acts_rows pieces height settled
settled_text pieces height settled word is =
    ap (λ t. codes "pieces|" ++ (decimal pieces ++ 10 ∷ (codes "height|" ++ (decimal height ++ 10 ∷ (codes "settled|" ++ (t ++ 10 ∷ [])))))) is
    ∙ ap (λ t. codes "pieces|" ++ (decimal pieces ++ 10 ∷ (codes "height|" ++ t))) (sym (append_assoc (decimal height) (10 ∷ []) (said "settled" settled)))
    ∙ ap (λ t. codes "pieces|" ++ t) (sym (append_assoc (decimal pieces) (10 ∷ []) _))

pub messages_text : (made queued : ℕ) (word : Text) → word ≡ codes (if queued == 0 then "yes" else "no")
    → codes "delivered|" ++ (decimal made ++ 10 ∷ (codes "queued|" ++ (decimal queued ++ 10 ∷ (codes "quiet|" ++ (word ++ 10 ∷ []))))) ≡ message_rows made queued
messages_text made queued word is =
    ap (λ t. codes "delivered|" ++ (decimal made ++ 10 ∷ (codes "queued|" ++ (decimal queued ++ 10 ∷ (codes "quiet|" ++ (t ++ 10 ∷ [])))))) is
    ∙ ap (λ t. codes "delivered|" ++ (decimal made ++ 10 ∷ (codes "queued|" ++ t))) (sym (append_assoc (decimal queued) (10 ∷ []) (said "quiet" (queued == 0))))
    ∙ ap (λ t. codes "delivered|" ++ t) (sym (append_assoc (decimal made) (10 ∷ []) _))

-- what is said of a wrong table
abbrev pub wrong_rows : ℕ → ℕ → (holds right : Option Entry) → Text
wrong_rows round a holds right = said "stable" false ++ (fact "round" round ++ (codes "holds|" ++ (entry_row a holds ++ (codes "right|" ++ entry_row a right))))

-- it is four pieces
pub wrong_text : {T E : Type 0} (r : Result T E) (old front : Text) (round a : ℕ) (holds right : Option Entry) (one two three last : Text)
    → front ≡ codes "stable|no\nround|" ++ (decimal round ++ 10 ∷ codes "holds|") → one ≡ old ++ front → two ≡ one ++ entry_row a holds → three ≡ two ++ codes "right|"
    → OnOk r (last ≡ three ++ entry_row a right) → OnOk r (last ≡ old ++ wrong_rows round a holds right)
wrong_text (Ok x) old front round a holds right one two three last is p q s h =
    let rest : Text = entry_row a holds ++ (codes "right|" ++ entry_row a right) in
    let joined : front ++ rest ≡ wrong_rows round a holds right =
    ap (λ t. t ++ rest) is ∙ ap (λ t. codes "stable|no\nround|" ++ t) (append_assoc (decimal round) (10 ∷ codes "holds|") rest ∙ sym (append_assoc (decimal round) (10 ∷ []) (codes "holds|" ++ rest))) in
    h ∙ ap (λ t. t ++ entry_row a right) (s ∙ ap (λ t. t ++ codes "right|") (q ∙ ap (λ t. t ++ entry_row a holds) p))
    ∙ append_assoc ((old ++ front) ++ entry_row a holds) (codes "right|") (entry_row a right)
    ∙ append_assoc (old ++ front) (entry_row a holds) (codes "right|" ++ entry_row a right)
    ∙ append_assoc old front rest ∙ ap (λ t. old ++ t) joined
wrong_text (Err e) old front round a holds right one two three last is p q s h = h
