-- What a file comes to, as its lines come.
use Rattle.std.proofs.Common.{◌≡◌, ℕ, ◌+◌, ◌<◌, List, [], ◌∷◌, ◌++◌, map, Option, Some, None, Result, Ok, Err, refl, sym, ap, ◌∙◌, append-nil, append_assoc, subst, length, get_or, drop, drop-cons, add-one, Vec, Global}
use Rattle.std.specs.Result.{result_err}
use Rattle.net_names.specs.Steps.{unless}
use Rattle.net_names.specs.Links.{LinkMap}
use Rattle.caida_reader.specs.Lines.{IsOneLine}
use Rattle.caida_reader.specs.Says.{says}
use Rattle.caida_reader.specs.Value.{said_in, fault_at, links_of}
use Rattle.caida_reader.specs.Firsts.{FirstMap, with_said, relations, Judges}
use Rattle.caida_reader.specs.Progress.{Progress, outcome, value_from, EndsLine, Gives, Fails, UnlessMemory, joined}
use Rattle.caida_reader.specs.Plain.{BeginsWithLine}
use Rattle.caida_reader.specs.declared.line.Line.{Line}
use Rattle.caida_reader.specs.declared.errors.RelError.{RelError}
use Rattle.caida_reader.specs.declared.errors.RelError.TheVariants as fault
use Rattle.caida_reader.proofs.Cutting.{lines-ended, lines-last}

-- the lines from one on that a line feed ends
from_line : (before : FirstMap) (line : ℕ) (text more : List ℕ) → IsOneLine text
    → value_from before line (said_in (text ++ 10 ∷ more)) ≡ unless (fault_at before line (says text)) (value_from (with_said before line (says text)) (line + 1) (said_in more))
from_line before line text more one = ap (λ texts. value_from before line (map says texts)) (lines-ended text more one)

-- the last line
at_last : (before : FirstMap) (line : ℕ) (text : List ℕ) → IsOneLine text
    → value_from before line (said_in (text ++ [])) ≡ unless (fault_at before line (says text)) (Ok (relations (with_said before line (says text))))
at_last before line text one = ap (λ texts. value_from before line (map says texts)) (lines-last text one)

-- what follows a line that was judged
module _ (old new : FirstMap) (line : ℕ) (text : List ℕ) where
  abbrev IsRight : Option RelError → (FirstMap → Result LinkMap RelError) → Type 0
  IsRight failed next = UnlessMemory failed (unless failed (next new) ≡ unless (fault_at old line (says text)) (next (with_said old line (says text))))

  pub judged : (next : FirstMap → Result LinkMap RelError) (r : Result (Unit {0}) RelError) → Judges old new line (says text) r → IsRight (result_err r) next
  judged next (Ok x) h = rw (h.0, h.1) refl
  judged next (Err fault.Memory) h = tt
  judged next (Err (fault.Unreadable n)) h = rw h refl
  judged next (Err (fault.SelfLink n)) h = rw h refl
  judged next (Err (fault.Conflict n m)) h = rw h refl
  judged next (Err (fault.TooManyLinks n)) h = rw h refl

-- what follows from a fact holds too, unless memory ran out
pub unless_memory : (f : Option RelError) (P Q : Type 0) → (P → Q) → UnlessMemory f P → UnlessMemory f Q
unless_memory None P Q h p = h p
unless_memory (Some fault.Memory) P Q h p = tt
unless_memory (Some (fault.Unreadable n)) P Q h p = h p
unless_memory (Some (fault.SelfLink n)) P Q h p = h p
unless_memory (Some (fault.Conflict n m)) P Q h p = h p
unless_memory (Some (fault.TooManyLinks n)) P Q h p = h p

for_all : (f : Option RelError) (P : List ℕ → Type 0) → ((more : List ℕ) → UnlessMemory f (P more)) → UnlessMemory f ((more : List ℕ) → P more)
for_all None P h = h
for_all (Some fault.Memory) P h = tt
for_all (Some (fault.Unreadable n)) P h = h
for_all (Some (fault.SelfLink n)) P h = h
for_all (Some (fault.Conflict n m)) P h = h
for_all (Some (fault.TooManyLinks n)) P h = h

-- a line feed has ended a line of a reader, whose new state is given in parts
pub line_ended : (p : Progress) (new : FirstMap) (end rest : List ℕ) (failed : Option RelError) (r : Result (Unit {0}) RelError) → p.failed ≡ None → IsOneLine (p.rest ++ end)
    → Judges p.table new p.line (says (p.rest ++ end)) r → rest ≡ [] → failed ≡ result_err r
    → UnlessMemory failed ((more : List ℕ) → outcome (record { table = new; line = p.line + 1; rest = rest; failed = failed }) more ≡ outcome p (end ++ 10 ∷ more))
line_ended p new end rest failed r goes one judges empty is = rw (empty, is) (for_all (result_err r) _ (λ more.
    unless_memory (result_err r) _ _ (λ h. h ∙ sym (from_line p.table p.line (p.rest ++ end) more one)
    ∙ ap (λ text. value_from p.table p.line (said_in text)) (append_assoc p.rest end (10 ∷ more))
    ∙ ap (λ f. unless f (value_from p.table p.line (said_in (p.rest ++ (end ++ 10 ∷ more))))) (sym goes))
    (judged p.table new p.line (p.rest ++ end) (λ table. value_from table (p.line + 1) (said_in more)) r judges)))

-- the same of a line that lies whole in a text
pub whole_line_ended : (p : Progress) (new : FirstMap) (text rest : List ℕ) (said : Line) (failed : Option RelError) (r : Result (Unit {0}) RelError) → p.failed ≡ None → p.rest ≡ []
    → BeginsWithLine text said rest → Judges p.table new p.line said r → failed ≡ result_err r → EndsLine p (record { table = new; line = p.line + 1; rest = p.rest; failed = failed }) text rest
whole_line_ended p new text rest said failed r goes empty begins judges is =
    let here : begins.line ≡ p.rest ++ begins.line = sym (ap (λ l. l ++ begins.line) empty) in
    record {
      line = begins.line;
      whole = begins.whole;
      goes_on = line_ended p new begins.line p.rest failed r goes (subst IsOneLine here begins.one_line)
          (subst (λ s. Judges p.table new p.line s r) (begins.value ∙ ap says here) judges) empty is;
      number = refl;
    }

-- a fault that is known is what the file comes to
known : (e : RelError) (value : Result LinkMap RelError) → UnlessMemory (Some e) (Err e ≡ value) → Fails e value
known fault.Memory value h = tt
known (fault.Unreadable n) value h = sym h
known (fault.SelfLink n) value h = sym h
known (fault.Conflict n m) value h = sym h
known (fault.TooManyLinks n) value h = sym h

-- the file has ended
pub file_ended : (p : Progress) (new : FirstMap) (r : Result (Unit {0}) RelError) → p.failed ≡ None → IsOneLine p.rest → Judges p.table new p.line (says p.rest) r
    → Gives (λ _. relations new) r (outcome p [])
file_ended p new r goes one judges = by_answer r (judged p.table new p.line p.rest (λ table. Ok (relations table)) r judges)
  where
    value : outcome p [] ≡ unless (fault_at p.table p.line (says p.rest)) (Ok (relations (with_said p.table p.line (says p.rest))))
    value = ap (λ f. unless f (value_from p.table p.line (said_in (p.rest ++ [])))) goes ∙ at_last p.table p.line p.rest one

    by_answer : (r : Result (Unit {0}) RelError) → IsRight p.table new p.line p.rest (result_err r) (λ table. Ok (relations table)) → Gives (λ _. relations new) r (outcome p [])
    by_answer (Ok x) h = value ∙ sym h
    by_answer (Err e) h = known e (outcome p []) (unless_memory (Some e) _ _ (λ is. is ∙ sym value) h)

failed_is : (q : Progress) (e : RelError) (more : List ℕ) → q.failed ≡ Some e → outcome q more ≡ Err e
failed_is q e more h = ap (λ f. unless f (value_from q.table q.line (said_in (q.rest ++ more)))) h

split : (left line rest more : List ℕ) → left ≡ line ++ 10 ∷ rest → line ++ 10 ∷ (rest ++ more) ≡ left ++ more
split left line rest more is = sym (append_assoc line (10 ∷ rest) more) ∙ ap (λ l. l ++ more) (sym is)

-- a line of the piece ended with a fault
pub stopped : (p q start : Progress) (e : RelError) (line rest left piece : List ℕ) → left ≡ line ++ 10 ∷ rest → q.failed ≡ Some e
    → UnlessMemory q.failed ((more : List ℕ) → outcome q more ≡ outcome p (line ++ 10 ∷ more))
    → ((more : List ℕ) → outcome p (left ++ more) ≡ outcome start (piece ++ more))
    → (more : List ℕ) → Fails e (outcome start (piece ++ more))
stopped p q start e line rest left piece is failed ended so_far more =
    known e _ (unless_memory (Some e) _ _ (λ on.
    sym (failed_is q e (rest ++ more) failed) ∙ on (rest ++ more) ∙ ap (outcome p) (split left line rest more is) ∙ so_far more)
    (subst (λ f. UnlessMemory f ((more : List ℕ) → outcome q more ≡ outcome p (line ++ 10 ∷ more))) failed ended))

-- a line of the piece ended without a fault
pub went_on : (p q start : Progress) (line rest left piece : List ℕ) → left ≡ line ++ 10 ∷ rest → q.failed ≡ None
    → UnlessMemory q.failed ((more : List ℕ) → outcome q more ≡ outcome p (line ++ 10 ∷ more))
    → ((more : List ℕ) → outcome p (left ++ more) ≡ outcome start (piece ++ more))
    → (more : List ℕ) → outcome q (rest ++ more) ≡ outcome start (piece ++ more)
went_on p q start line rest left piece is goes ended so_far more =
    let on = subst (λ f. UnlessMemory f ((more : List ℕ) → outcome q more ≡ outcome p (line ++ 10 ∷ more))) goes ended in
    on (rest ++ more) ∙ ap (outcome p) (split left line rest more is) ∙ so_far more

-- a fault that a reader answers goes on for it
pub goes_on_failed : (q : Progress) (e : RelError) (value : List ℕ → Result LinkMap RelError) → q.failed ≡ Some e → ((more : List ℕ) → Fails e (value more))
    → UnlessMemory q.failed ((more : List ℕ) → outcome q more ≡ value more)
goes_on_failed q fault.Memory value is h = rw is tt
goes_on_failed q (fault.Unreadable n) value is h = rw is (λ more. sym (h more))
goes_on_failed q (fault.SelfLink n) value is h = rw is (λ more. sym (h more))
goes_on_failed q (fault.Conflict n m) value is h = rw is (λ more. sym (h more))
goes_on_failed q (fault.TooManyLinks n) value is h = rw is (λ more. sym (h more))

-- the fault of a piece is that of the file
pub piece_fault : (p : Progress) (e : RelError) (piece rest file : List ℕ) → ((more : List ℕ) → Fails e (outcome p (piece ++ more)))
    → ((more : List ℕ) → outcome p ((piece ++ rest) ++ more) ≡ links_of (file ++ more)) → Fails e (links_of file)
piece_fault p e piece rest file fault so_far =
    subst (Fails e) (ap (outcome p) (sym (append_assoc piece rest [])) ∙ so_far [] ∙ ap links_of (append-nil file)) (fault (rest ++ []))

-- the pieces from one on
pub pieces_from : (pieces : List (Vec ℕ Global)) (i : ℕ) (piece : Vec ℕ Global) → i < length pieces → piece ≡ get_or pieces i piece
    → joined (drop i pieces) ≡ piece.items ++ joined (drop (i + 1) pieces)
pieces_from pieces i piece l is =
    let cons : drop i pieces ≡ get_or pieces i piece ∷ drop (i + 1) pieces = rw (add-one) (drop-cons pieces i piece l) in
    ap joined cons ∙ ap (λ (p : Vec ℕ Global). p.items ++ joined (drop (i + 1) pieces)) (sym is)
