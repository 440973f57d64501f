-- A file of sweeps is accepted where each line has the form, and else its first faulty line is told.
use Rattle.std.proofs.Common.{◌≡◌, ◌⊎◌, inl, inr, ℕ, ◌+◌, ◌≤◌, Bool, true, false, nat_lt, List, [], ◌∷◌, ◌++◌, map, length, Option, Some, None, IsSome, Result, Ok, Err, if◌then◌else◌, refl, sym, ap, ◌∙◌, append_assoc, append-nil, length-append, arith}
use Rattle.std.specs.Prelude.{ok_or}
use Rattle.std.proofs.lemmas.Bool.{ltb-true, ltb-false}
use Rattle.std.proofs.lemmas.Bool.Decides.{nat_tests}
use Rattle.net_names.specs.Lines.{kept_from, said_on}
use Rattle.net_names.specs.Trials.{◌>>=◌}
use Rattle.scenario_text.specs.declared.line_faults.LinesError.{LinesError}
use Rattle.scenario_text.specs.declared.line_faults.LinesError.TheVariants.{Unreadable, TooMany}
use Rattle.sweep.specs.Reading.{with_line}
use Rattle.sweep.specs.declared.sweeps.Sweep.{Sweep}
use Rattle.told_laws.specs.SweepFiles.{AreSweeps, IsFirstSweepFault, SweepFaultsAreFirst, SweepsAreThoseSaid, asked_by}
use Rattle.told_laws.proofs.Folds.{fault_first, first_fault}

abbrev Lines : Type 0
Lines = List (ℕ × List ℕ)

-- ---- one line

step : List Sweep → ℕ → Bool → Option Sweep → Result (List Sweep) LinesError
step before n fits o = ok_or o (Unreadable n) >>= λ s. if fits then Ok (before ++ s ∷ []) else Err (TooMany n)

one_ok : (before now : List Sweep) (n : ℕ) (fits : Bool) (o : Option Sweep) → step before n fits o ≡ Ok now → (s : Sweep) × (o ≡ Some s) × (fits ≡ true) × (now ≡ before ++ s ∷ [])
unfolding step
one_ok before now n fits None h = cc
one_ok before now n true (Some s) h = (s, refl, refl, let t : now ≡ before ++ s ∷ [] = cc in t)
one_ok before now n false (Some s) h = cc

one_err : (before : List Sweep) (n : ℕ) (fits : Bool) (o : Option Sweep) (e : LinesError) → step before n fits o ≡ Err e → ((o ≡ None) × (e ≡ Unreadable n)) ⊎ (IsSome o × (fits ≡ false) × (e ≡ TooMany n))
unfolding step
one_err before n fits None e h = inl (refl, let t : e ≡ Unreadable n = cc in t)
one_err before n true (Some s) e h = cc
one_err before n false (Some s) e h = inr (refl, refl, let t : e ≡ TooMany n = cc in t)

err_one : (before : List Sweep) (n : ℕ) (fits : Bool) (o : Option Sweep) (e : LinesError) → ((o ≡ None) × (e ≡ Unreadable n)) ⊎ (IsSome o × (fits ≡ false) × (e ≡ TooMany n)) → step before n fits o ≡ Err e
unfolding step
err_one before n fits o e (inl (none, is)) = rw (none, is) refl
err_one before n fits None e (inr (some, full, is)) = absurd (let t : false ≡ true = some in cc)
err_one before n fits (Some s) e (inr (some, full, is)) = rw (full, is) refl

-- ---- all lines

pub made : (ls : Lines) (sweeps before : List Sweep) → map asked_by ls ≡ map Some sweeps → length before + length sweeps ≤ 1000 → said_on with_line before ls ≡ Ok (before ++ sweeps)
unfolding said_on
made [] [] before e few = ap (λ (t : List Sweep). Ok t) (sym (append-nil before))
made [] (s ∷ sweeps) before e few = absurd cc
made (l ∷ ls) [] before e few = absurd cc
made (l ∷ ls) (s ∷ sweeps) before e few =
    let head : asked_by l ≡ Some s = cc in
    let tail : map asked_by ls ≡ map Some sweeps = cc in
    let fits : nat_lt (length before) 1000 ≡ true = grind (arith, nat_tests) in
    let here : with_line before l ≡ Ok (before ++ s ∷ []) = rw (head, fits) refl in
    ap (λ (r : Result (List Sweep) LinesError). r >>= λ t. said_on with_line t ls) here
    ∙ made ls sweeps (before ++ s ∷ []) tail (omega (arith, few, length-append before (s ∷ [])))
    ∙ ap (λ (t : List Sweep). Ok t) (append_assoc before (s ∷ []) sweeps)

record IsTaken (ls : Lines) (before now : List Sweep) : Type 0 where
  sweeps : List Sweep
  say : map asked_by ls ≡ map Some sweeps
  is : now ≡ before ++ sweeps
  few : length now ≤ 1000

taken : (ls : Lines) (before now : List Sweep) → length before ≤ 1000 → said_on with_line before ls ≡ Ok now → IsTaken ls before now
unfolding said_on step
taken [] before now few h = let same : before ≡ now = cc in record { sweeps = []; say = refl; is = sym same ∙ sym (append-nil before); few = omega (arith, few, ap length same) }
taken (l ∷ ls) before now few h = by (with_line before l) refl h (λ mid. taken ls mid now)
  where
    by : (r : Result (List Sweep) LinesError) → with_line before l ≡ r → (r >>= λ t. said_on with_line t ls) ≡ Ok now → ((mid : List Sweep) → length mid ≤ 1000 → said_on with_line mid ls ≡ Ok now → IsTaken ls mid now) → IsTaken (l ∷ ls) before now
    by (Err e) is h more = cc
    by (Ok mid) is h more =
        let (s, form, fits, grown) = one_ok before mid l.0 (nat_lt (length before) 1000) (asked_by l) is in
        let t = more mid (omega (arith, ap length grown, length-append before (s ∷ []), ltb-true (length before) 1000 fits)) h in
        record { sweeps = s ∷ t.sweeps; say = (λ i. form i ∷ t.say i); is = t.is ∙ ap (λ b. b ++ t.sweeps) grown ∙ append_assoc before (s ∷ []) t.sweeps; few = t.few }

pub all_taken : (ls : Lines) (now : List Sweep) → said_on with_line [] ls ≡ Ok now → AreSweeps ls now
all_taken ls now h = let t = taken ls [] now (omega arith) h in record { say = t.say ∙ ap (map (λ (s : Sweep). Some s)) (sym t.is); few = t.few }

pub all_made : (ls : Lines) (now : List Sweep) → AreSweeps ls now → said_on with_line [] ls ≡ Ok now
all_made ls now are = made ls now [] are.say (let few : length now ≤ 1000 = are.few in omega (arith, few))

pub those_said : SweepsAreThoseSaid
those_said bytes sweeps = (all_taken (kept_from 1 bytes) sweeps, all_made (kept_from 1 bytes) sweeps)

-- ---- faults

full_at : (n : ℕ) → n ≤ 1000 → nat_lt n 1000 ≡ false → n ≡ 1000
full_at n few full = let ge = ltb-false n 1000 full in omega (arith, few, ge)

pub faults_first : SweepFaultsAreFirst
unfolding step
faults_first bytes e = (there, back)
  where
    there : said_on with_line [] (kept_from 1 bytes) ≡ Err e → IsFirstSweepFault (kept_from 1 bytes) e
    there h =
        let f = first_fault with_line [] (kept_from 1 bytes) e h in
        let good = all_taken f.front f.now f.good in
        record {
          front = f.front;
          line = f.item;
          back = f.back;
          cut = f.cut;
          sweeps = f.now;
          good = good;
          fault = elim (one_err f.now f.item.0 (nat_lt (length f.now) 1000) (asked_by f.item) e f.fault) [
            | inl unread ↦ inl unread
            | inr many ↦ inr (many.0, full_at (length f.now) good.few many.1, many.2)
          ];
        }

    back : IsFirstSweepFault (kept_from 1 bytes) e → said_on with_line [] (kept_from 1 bytes) ≡ Err e
    back f = fault_first with_line [] (kept_from 1 bytes) e (record {
      front = f.front;
      item = f.line;
      back = f.back;
      cut = f.cut;
      now = f.sweeps;
      good = all_made f.front f.sweeps f.good;
      fault = err_one f.sweeps f.line.0 (nat_lt (length f.sweeps) 1000) (asked_by f.line) e (elim f.fault [
        | inl unread ↦ inl unread
        | inr many ↦ inr (many.0, (let is : length f.sweeps ≡ 1000 = many.1 in let t : nat_lt (length f.sweeps) 1000 ≡ false = grind (arith, nat_tests) in t), many.2)
      ]);
    })
