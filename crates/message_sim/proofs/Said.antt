-- What the lines of a file of deliveries say one after the other is what they say all at once.
use Rattle.std.proofs.Common.{◌≡◌, ℕ, ◌+◌, ◌≤◌, Bool, true, false, nat_le, List, [], ◌∷◌, ◌++◌, length, map, Option, Some, None, Result, Ok, Err, refl, sym, ap, subst, ◌∙◌, append_assoc, append-nil, length-append, arith}
use Rattle.std.proofs.lemmas.Bool.{leb-true, le-leb}
use Rattle.std.proofs.lemmas.Grind.{flat_map-append}
use Rattle.std.specs.Prelude.{if◌then◌else◌, ok_or}
use Rattle.net_names.specs.Lines.{said_on}
use Rattle.net_names.specs.Trials.{◌>>=◌}
use Rattle.scenario_text.proofs.FileLines.{begun}
use Rattle.message_sim.specs.Turns.{turns_of}
use Rattle.message_sim.specs.declared.steps.Deliveries.{Deliveries}
use Rattle.message_sim.specs.StepValues.{StepValue}
use Rattle.message_sim.specs.declared.steps.TheConstants.{MOST_DELIVERIES}
use Rattle.message_sim.specs.declared.reading.DeliveriesError.{DeliveriesError}
use Rattle.message_sim.specs.declared.reading.DeliveriesError.TheVariants.{Unreadable, TooMany, NoFor}
use Rattle.message_sim.specs.Files.{deliveries_by, step_of, with_line}
use Rattle.message_sim.specs.FileLaws.{IsFile}
use Rattle.message_sim.proofs.FileLines.{begins}

-- the steps of the lines, behind those that stand there
record Says (lines : List (ℕ × List ℕ)) (d end : Deliveries) : Type 0 where
  pub more : List StepValue
  pub steps : map step_of lines ≡ map Some more
  pub whole : end ≡ record d { steps = d.steps ++ more }
  pub few : length (turns_of end.steps) ≤ MOST_DELIVERIES

all_said : (ls : List (ℕ × List ℕ)) (d end : Deliveries) → length (turns_of d.steps) ≤ MOST_DELIVERIES → said_on with_line d ls ≡ Ok end → Says ls d end
unfolding said_on
all_said [] d end few is = let same : d ≡ end = cc in record {
  more = [];
  steps = refl;
  whole = sym same ∙ (λ i. record d { steps = sym (append-nil d.steps) i });
  few = subst (λ (t : Deliveries). length (turns_of t.steps) ≤ MOST_DELIVERIES) same few;
}
all_said (l ∷ ls) d end few is = by (λ s fits h. all_said ls (record d { steps = d.steps ++ s ∷ [] }) end fits h) (step_of l) refl is
  where
    taken : (s : StepValue) (b : Bool) → step_of l ≡ Some s → nat_le (length (turns_of (d.steps ++ s ∷ []))) MOST_DELIVERIES ≡ b
        → ((if b then Ok (record d { steps = d.steps ++ s ∷ [] }) else Err (TooMany s.line)) >>= λ t. said_on with_line t ls) ≡ Ok end
        → ((s : StepValue) → length (turns_of (d.steps ++ s ∷ [])) ≤ MOST_DELIVERIES → said_on with_line (record d { steps = d.steps ++ s ∷ [] }) ls ≡ Ok end → Says ls (record d { steps = d.steps ++ s ∷ [] }) end) → Says (l ∷ ls) d end
    taken s false e b h rest = absurd cc
    taken s true e b h rest =
        let later = rest s (leb-true (length (turns_of (d.steps ++ s ∷ []))) MOST_DELIVERIES b) h in
        record { more = s ∷ later.more; steps = λ i. e i ∷ later.steps i; whole = later.whole ∙ (λ i. record d { steps = append_assoc d.steps (s ∷ []) later.more i }); few = later.few }

    by : ((s : StepValue) → length (turns_of (d.steps ++ s ∷ [])) ≤ MOST_DELIVERIES → said_on with_line (record d { steps = d.steps ++ s ∷ [] }) ls ≡ Ok end → Says ls (record d { steps = d.steps ++ s ∷ [] }) end)
        → (o : Option StepValue) → step_of l ≡ o → ((ok_or o (Unreadable l.0) >>= λ s. if nat_le (length (turns_of (d.steps ++ s ∷ []))) MOST_DELIVERIES then Ok (record d { steps = d.steps ++ s ∷ [] }) else Err (TooMany s.line)) >>= λ t. said_on with_line t ls) ≡ Ok end → Says (l ∷ ls) d end
    by rest None e h = absurd cc
    by rest (Some s) e h = taken s (nat_le (length (turns_of (d.steps ++ s ∷ []))) MOST_DELIVERIES) e refl h rest

all_made : (ls : List (ℕ × List ℕ)) (more : List StepValue) (d : Deliveries) → map step_of ls ≡ map Some more → length (turns_of (d.steps ++ more)) ≤ MOST_DELIVERIES → said_on with_line d ls ≡ Ok (record d { steps = d.steps ++ more })
unfolding said_on
all_made [] [] d e few = λ i. Ok (record d { steps = sym (append-nil d.steps) i })
all_made [] (s ∷ ss) d e few = absurd cc
all_made (l ∷ ls) [] d e few = absurd cc
all_made (l ∷ ls) (s ∷ ss) d e few =
    let head : step_of l ≡ Some s = cc in
    let tail : map step_of ls ≡ map Some ss = cc in
    let joined : (d.steps ++ s ∷ []) ++ ss ≡ d.steps ++ s ∷ ss = append_assoc d.steps (s ∷ []) ss in
    let all : length (turns_of ((d.steps ++ s ∷ []) ++ ss)) ≤ MOST_DELIVERIES = subst (λ t. length (turns_of t) ≤ MOST_DELIVERIES) (sym joined) few in
    let parts : length (turns_of ((d.steps ++ s ∷ []) ++ ss)) ≡ length (turns_of (d.steps ++ s ∷ [])) + length (turns_of ss) = ap length (flat_map-append _ (d.steps ++ s ∷ []) ss) ∙ length-append (turns_of (d.steps ++ s ∷ [])) (turns_of ss) in
    let fits : nat_le (length (turns_of (d.steps ++ s ∷ []))) MOST_DELIVERIES ≡ true = le-leb (length (turns_of (d.steps ++ s ∷ []))) MOST_DELIVERIES (omega (arith, all, parts)) in
    let here : with_line d l ≡ Ok (record d { steps = d.steps ++ s ∷ [] }) = rw (head, fits) refl in
    ap (λ (x : Result Deliveries DeliveriesError). x >>= λ t. said_on with_line t ls) here ∙ all_made ls ss (record d { steps = d.steps ++ s ∷ [] }) tail all ∙ (λ i. Ok (record d { steps = joined i }))

-- ---- the whole file

pub file_said : (lines : List (ℕ × List ℕ)) (d : Deliveries) → deliveries_by lines ≡ Ok d → IsFile lines d
unfolding deliveries_by
file_said lines d is =
    let b = begun NoFor Unreadable begins lines d is in
    let said = all_said b.rest (record { for_line = b.number; round = b.names.0; prefix = b.names.1; steps = [] }) d (omega arith) b.says_so in
    let whole : d ≡ record { for_line = b.number; round = b.names.0; prefix = b.names.1; steps = said.more } = said.whole in
    record {
      text = b.text;
      rest = b.rest;
      lines_are = b.lines_are ∙ ap (λ (t : Deliveries). (t.for_line, b.text) ∷ b.rest) (sym whole);
      names = b.names_are ∙ ap (λ (t : Deliveries). Some (t.round, t.prefix)) (sym whole);
      steps = said.steps ∙ ap (λ (t : Deliveries). map Some t.steps) (sym whole);
      few = said.few;
    }

pub said_file : (lines : List (ℕ × List ℕ)) (d : Deliveries) → IsFile lines d → deliveries_by lines ≡ Ok d
unfolding deliveries_by
said_file lines d f = rw (f.lines_are, f.names) (all_made f.rest d.steps (record d { steps = [] }) f.steps f.few)
