-- Which scripts are accepted, and with which lines.
use Rattle.std.proofs.Common.{◌≡◌, ℕ, suc, ◌+◌, ◌<◌, ◌≤◌, true, false, Bool, List, [], ◌∷◌, length, map, All, Option, Some, None, Result, Ok, Err, IsOk, IsSome, refl, sym, ap, arith, nat_lt}
use Rattle.std.specs.Prelude.{ok_or, if◌then◌else◌}
use Rattle.std.proofs.lemmas.Bool.{ltb-true, lt-ltb}
use Rattle.std.proofs.lemmas.List.Elements.{All-nil, All-cons, All-head, All-tail}
use Rattle.scenario_text.specs.declared.acts.Act.{Act}
use Rattle.scenario_text.specs.declared.line_faults.LinesError.TheVariants.{Unreadable, TooMany}
use Rattle.scenario_text.specs.Forms.{act_of}
use Rattle.scenario_text.specs.LineValues.{LineValue}
use Rattle.scenario_text.specs.Script.{command}
use Rattle.scenario_text.specs.Walks.{◌>>=◌, each_from}
use Rattle.scenario_text.proofs.Sound.{first_step}

-- what a reading that isn't refused gives
pub ok_value : {A E : Type 0} (r : Result A E) → IsOk r → (x : A) × (r ≡ Ok x)
ok_value (Ok x) h = (x, refl)
ok_value (Err e) h = absurd (cc)

some_value : {A : Type 0} (o : Option A) → IsSome o → (x : A) × (o ≡ Some x)
some_value (Some x) h = (x, refl)
some_value None h = absurd (cc)

-- what a line that is accepted says, whose form and room are judged so
accepted_line : (o : Option Act) (room : Bool) (number : ℕ) (l : LineValue)
    → (ok_or o (Unreadable number) >>= λ act. if room then Ok (record { number = number; act = act }) else Err (TooMany number)) ≡ Ok l → (l.number ≡ number) × (o ≡ Some l.act) × (room ≡ true)
accepted_line None room number l h = absurd (cc)
accepted_line (Some act) false number l h = absurd (cc)
accepted_line (Some act) true number l h =
    let line : LineValue = record { number = number; act = act } in
    let same : line ≡ l = cc in (sym (ap (λ (x : LineValue). x.number) same), ap (λ (x : LineValue). Some x.act) same, refl)

-- the line has one of the forms
abbrev pub HasForm : ℕ × List ℕ → Type 0
HasForm line = IsSome (act_of line.1)

-- the first line of an accepted script, and the script of the others
record Begins (before : ℕ) (line : ℕ × List ℕ) (others : List (ℕ × List ℕ)) (lines : List LineValue) : Type 0 where
  first : LineValue
  rest : List LineValue
  number : first.number ≡ line.0
  act : act_of line.1 ≡ Some first.act
  room : before < 100000
  more : each_from command (suc before) others ≡ Ok rest
  whole : first ∷ rest ≡ lines

begins : (before : ℕ) (line : ℕ × List ℕ) (others : List (ℕ × List ℕ)) (lines : List LineValue) → each_from command before (line ∷ others) ≡ Ok lines → Begins before line others lines
unfolding each_from
begins before line others lines h =
    let a = first_step (command before line) (λ y. each_from command (suc before) others >>= λ ys. Ok (y ∷ ys)) lines h in
    let b = first_step (each_from command (suc before) others) (λ ys. Ok (a.0 ∷ ys)) lines a.2 in
    let line = accepted_line (act_of line.1) (nat_lt before 100000) line.0 a.0 a.1 in
    record {
      first = a.0;
      rest = b.0;
      number = line.0;
      act = line.1;
      room = ltb-true before 100000 line.2;
      more = b.1;
      whole = cc (b.2);
    }

pub lines_given : (before : ℕ) (said : List (ℕ × List ℕ)) (lines : List LineValue) → each_from command before said ≡ Ok lines → map {B = ℕ × Option Act} (λ l. (l.number, Some l.act)) lines ≡ map {B = ℕ × Option Act} (λ line. (line.0, act_of line.1)) said
unfolding each_from
lines_given before [] lines h = let none : [] ≡ lines = cc in rw (← none) refl
lines_given before (line ∷ others) lines h =
    let b = begins before line others lines h in
    rw (← b.whole, b.number, ← b.act) (ap (λ (xs : List (ℕ × Option Act)). (line.0, act_of line.1) ∷ xs) (lines_given (suc before) others b.rest b.more))

pub forms_of : (before : ℕ) (said : List (ℕ × List ℕ)) (lines : List LineValue) → before ≤ 100000 → each_from command before said ≡ Ok lines → All HasForm said × (before + length said ≤ 100000)
forms_of before [] lines le h = (All-nil HasForm, omega arith)
forms_of before (line ∷ others) lines le h =
    let b = begins before line others lines h in
    let rest = forms_of (suc before) others b.rest (omega (arith, b.room)) b.more in
    (All-cons HasForm line others (rw b.act refl) rest.0, omega (arith, rest.1))

pub accepted_of : (before : ℕ) (said : List (ℕ × List ℕ)) → All HasForm said → before + length said ≤ 100000 → IsOk (each_from command before said)
unfolding each_from
accepted_of before [] all few = refl
accepted_of before (line ∷ others) all few =
    let act = some_value (act_of line.1) (All-head HasForm line others all) in
    let room : nat_lt before 100000 ≡ true = lt-ltb before 100000 (omega arith) in
    let rest = ok_value (each_from command (suc before) others) (accepted_of (suc before) others (All-tail HasForm line others all) (omega (arith, few))) in
    rw (act.1, room, rest.1) refl
