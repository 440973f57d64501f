-- The payloads of rows, and the first fault of rows behind others.
use Rattle.std.proofs.Common.{◌≡◌, ℕ, ◌+◌, ◌≤◌, Bool, true, false, cond, ◌||◌, List, [], ◌∷◌, ◌++◌, length, refl, sym, ap, subst, ◌∙◌, arith, Option, Some, None, Result, Ok, Err, append_assoc, append-nil}
use Rattle.std.specs.Prelude.{nat_lt, is_ok}
use Rattle.std.specs.List.{list_all, dedup, dedup_from, cons_option}
use Rattle.std.specs.Option.{option_map, option_or}
use Rattle.std.specs.Bool.{then_some}
use Rattle.std.specs.Result.{result_ok, result_err, result_map_both}
use Rattle.std.specs.Ordering.{eq_by_cmp}
use Rattle.std.specs.FinMap as fin
use Rattle.std.proofs.lemmas.Bool.Decides.{nat_tests}
use Rattle.std.proofs.lemmas.List.Folds.{list_any-append}
use Rattle.net_names.specs.Steps as steps
use Rattle.net_names.specs.Payloads.{VrpValue, vrp_cmp}
use Rattle.net_names.specs.Orders.{vrp_total, exact_vrp}
use Rattle.roa_table.specs.Sets.{IsSound, has, added, count, set_of}
use Rattle.roa_table.specs.Lists.{IsRising, stands_in}
use Rattle.roa_table.specs.Records.{payload_of}
use Rattle.roa_table.specs.Files.{given, fault_of}
use Rattle.roa_table.specs.Standing.{Record}
use Rattle.roa_table.specs.Judging.{judged, payloads_of, fault_at}
use Rattle.roa_table.specs.Gathering.{JoinsIn}
use Rattle.roa_table.specs.declared.errors.VrpError.{VrpError}
use Rattle.roa_table.specs.declared.errors.VrpError.TheVariants as fault
use Rattle.net_names.proofs.Shortening.{both}
use Rattle.roa_table.proofs.Rising.{eq_is}
use Rattle.roa_table.proofs.Placed.{same_set_of, count_set_of}

-- the first fault of rows behind others
abbrev pub first_fault : List Record → List Record → Option VrpError
first_fault = steps.first_fault fault_of

-- dropping repeats keeps the members
pub any_dedup : (E : VrpValue → VrpValue → Bool) → ((v w : VrpValue) → E v w ≡ eq_by_cmp vrp_cmp v w) → (vs : List VrpValue) (q : VrpValue) → stands_in (dedup E vs) q ≡ stands_in vs q
any_dedup E ties [] q = refl
any_dedup E ties (v ∷ vs) q = from v vs
  where
    twice : (a b : Bool) → (a || b) ≡ (a || (a || b))
    twice true b = refl
    twice false b = refl

    from : (k : VrpValue) (ws : List VrpValue) → stands_in (dedup_from E k ws) q ≡ (eq_by_cmp vrp_cmp q k || stands_in ws q)
    from k [] = refl
    from k (w ∷ ws) = by (E w k) refl (from k ws) (from w ws)
      where
        by : (b : Bool) → E w k ≡ b → stands_in (dedup_from E k ws) q ≡ (eq_by_cmp vrp_cmp q k || stands_in ws q) → stands_in (dedup_from E w ws) q ≡ (eq_by_cmp vrp_cmp q w || stands_in ws q)
            → stands_in (cond b (dedup_from E k ws) (k ∷ dedup_from E w ws)) q ≡ (eq_by_cmp vrp_cmp q k || (eq_by_cmp vrp_cmp q w || stands_in ws q))
        by true e f g = f ∙ twice (eq_by_cmp vrp_cmp q k) (stands_in ws q) ∙ ap (λ x. eq_by_cmp vrp_cmp q k || (eq_by_cmp vrp_cmp q x || stands_in ws q)) (sym (eq_is vrp_total exact_vrp w k (sym (ties w k) ∙ e)))
        by false e f g = ap (λ b. eq_by_cmp vrp_cmp q k || b) g

-- one payload more at the end
pub stands_in-push : (vs : List VrpValue) (v q : VrpValue) → stands_in (vs ++ (v ∷ [])) q ≡ (eq_by_cmp vrp_cmp q v || stands_in vs q)
stands_in-push vs v q = list_any-append (eq_by_cmp vrp_cmp q) vs (v ∷ []) ∙ turn (stands_in vs q) (eq_by_cmp vrp_cmp q v)
  where
    turn : (a b : Bool) → (a || (b || false)) ≡ (b || a)
    turn true true = refl
    turn true false = refl
    turn false true = refl
    turn false false = refl

payloads_of-append : (xs ys : List Record) → payloads_of (xs ++ ys) ≡ payloads_of xs ++ payloads_of ys
payloads_of-append [] ys = refl
payloads_of-append (x ∷ xs) ys = ap (cons_option (result_ok (payload_of x))) (payloads_of-append xs ys) ∙ by (payload_of x)
  where
    by : (r : Result VrpValue (ℕ → VrpError)) → cons_option (result_ok r) (payloads_of xs ++ payloads_of ys) ≡ cons_option (result_ok r) (payloads_of xs) ++ payloads_of ys
    by (Ok v) = refl
    by (Err w) = refl

pub payloads_of-push : (xs : List Record) (x : Record) (v : VrpValue) → payload_of x ≡ Ok v → payloads_of (xs ++ (x ∷ [])) ≡ payloads_of xs ++ (v ∷ [])
payloads_of-push xs x v e = payloads_of-append xs (x ∷ []) ∙ ap (λ r. payloads_of xs ++ cons_option (result_ok r) []) e

-- the number of payloads of lists
count_more : (vs ws : List VrpValue) → count (set_of ws) ≤ count (set_of (vs ++ ws))
count_more [] ws = omega arith
count_more (v ∷ vs) ws = by (has (set_of (vs ++ ws)) v) (fin.len-insert vrp_total (set_of (vs ++ ws)) v tt) (count_more vs ws)
  where
    by : (b : Bool) → count (added (set_of (vs ++ ws)) v) ≡ cond b (count (set_of (vs ++ ws))) (count (set_of (vs ++ ws)) + 1) → count (set_of ws) ≤ count (set_of (vs ++ ws)) → count (set_of ws) ≤ count (added (set_of (vs ++ ws)) v)
    by true e h = omega (arith, e, h)
    by false e h = omega (arith, e, h)

set_of-turned : (vs ws : List VrpValue) → set_of (vs ++ ws) ≡ set_of (ws ++ vs)
set_of-turned vs ws = same_set_of (vs ++ ws) (ws ++ vs) (λ q. list_any-append (eq_by_cmp vrp_cmp q) vs ws ∙ turn (stands_in vs q) (stands_in ws q) ∙ sym (list_any-append (eq_by_cmp vrp_cmp q) ws vs))
  where
    turn : (a b : Bool) → (a || b) ≡ (b || a)
    turn true true = refl
    turn true false = refl
    turn false true = refl
    turn false false = refl

pub count_given : (xs ys : List Record) → count (given xs) ≤ count (given (xs ++ ys))
count_given xs ys = subst (λ s. count (given xs) ≤ count s) (set_of-turned (payloads_of ys) (payloads_of xs) ∙ ap set_of (sym (payloads_of-append xs ys))) (count_more (payloads_of ys) (payloads_of xs))

pub given-push : (xs : List Record) (x : Record) (v : VrpValue) → payload_of x ≡ Ok v → given (xs ++ (x ∷ [])) ≡ added (given xs) v
given-push xs x v e = ap set_of (payloads_of-push xs x v e) ∙ set_of-turned (payloads_of xs) (v ∷ [])

count_push : (xs : List Record) (x : Record) (v : VrpValue) → payload_of x ≡ Ok v → count (given (xs ++ (x ∷ []))) ≡ cond (has (given xs) v) (count (given xs)) (count (given xs) + 1)
count_push xs x v e = ap count (given-push xs x v e) ∙ fin.len-insert vrp_total (given xs) v tt

-- the fault of a row of this number, of which this was read, where it is told whether the rows up to it give too many payloads
abbrev pub fault_by : ℕ → Result VrpValue (ℕ → VrpError) → Bool → Option VrpError
fault_by n r many = option_map (λ e. e n) (option_or (result_err r) (then_some many fault.TooMany))

abbrev too_many : List Record → Record → Bool
too_many before row = nat_lt 2000000 (count (given (before ++ (row ∷ []))))

-- a row whose payload finds room has no fault
no_fault : (before : List Record) (row : Record) (v : VrpValue) → payload_of row ≡ Ok v → count (given (before ++ (row ∷ []))) ≤ 2000000 → fault_of before row ≡ None
no_fault before row v e few =
    let none : too_many before row ≡ false = grind (arith, nat_tests, few) in
    λ i. fault_by (length before + 2) (e i) (none i)

few_by : (n : ℕ) (r : Result VrpValue (ℕ → VrpError)) (many : Bool) → fault_by n r many ≡ None → many ≡ false
few_by n (Err w) many h = cc h
few_by n (Ok v) true h = cc h
few_by n (Ok v) false h = refl

-- the rows up to one without a fault give few payloads
pub few_after : (before : List Record) (row : Record) → fault_of before row ≡ None → count (given (before ++ (row ∷ []))) ≤ 2000000
few_after before row h =
    let few : too_many before row ≡ false = few_by (length before + 2) (payload_of row) (too_many before row) h in
    grind (arith, nat_tests, few)

-- a row that gives no payload has a fault
pub faulty : (before : List Record) (row : Record) (e : VrpError) → judged (length before + 2) row ≡ Err e → fault_of before row ≡ Some e
faulty before row e = by (payload_of row)
  where
    by : (r : Result VrpValue (ℕ → VrpError)) → result_map_both (λ v. v) (λ w. w (length before + 2)) r ≡ Err e → fault_by (length before + 2) r (too_many before row) ≡ Some e
    by (Ok v) h = cc h
    by (Err w) h = let same : w (length before + 2) ≡ e = cc h in ap (λ x. Some x) same

-- the fault of a row behind rows with few payloads, as it is found
pub fault_of-is : (before : List Record) (row : Record) → count (given before) ≤ 2000000 → fault_of before row ≡ fault_at (given before) (length before + 2) (judged (length before + 2) row)
fault_of-is before row few = by (payload_of row) refl
  where
    by : (r : Result VrpValue (ℕ → VrpError)) → payload_of row ≡ r → fault_by (length before + 2) r (too_many before row) ≡ fault_at (given before) (length before + 2) (result_map_both (λ v. v) (λ e. e (length before + 2)) r)
    by (Err w) e = refl
    by (Ok v) e = known (has (given before) v) (count_push before row v e)
      where
        told : (many : Bool) → too_many before row ≡ many → fault_by (length before + 2) (Ok v) (too_many before row) ≡ fault_by (length before + 2) (Ok v) many
        told many h = ap (fault_by (length before + 2) (Ok v)) h

        known : (b : Bool) → count (given (before ++ (row ∷ []))) ≡ cond b (count (given before)) (count (given before) + 1)
            → fault_by (length before + 2) (Ok v) (too_many before row) ≡ cond (b || nat_lt (count (given before)) 2000000) None (Some (fault.TooMany (length before + 2)))
        known true k = told false (grind (arith, nat_tests, few, k))
        known false k = room (nat_lt (count (given before)) 2000000) refl
          where
            room : (b : Bool) → nat_lt (count (given before)) 2000000 ≡ b → fault_by (length before + 2) (Ok v) (too_many before row) ≡ cond b None (Some (fault.TooMany (length before + 2)))
            room true m = told false (grind (arith, nat_tests, k, m))
            room false m = told true (grind (arith, nat_tests, k, m))

is_payload : (r : Result VrpValue (ℕ → VrpError)) → is_ok r ≡ true → (v : VrpValue) × (r ≡ Ok v)
is_payload (Ok v) e = (v, refl)
is_payload (Err w) e = cc e

-- readable rows with few payloads have no fault, so the first one is behind them
pub first_behind : (before done left : List Record) → list_all (λ r. is_ok (payload_of r)) done ≡ true → count (given (before ++ done)) ≤ 2000000 → first_fault before (done ++ left) ≡ first_fault (before ++ done) left
first_behind before [] left h few = ap (λ l. first_fault l left) (sym (append-nil before))
first_behind before (row ∷ done) left h few =
    let k = both _ _ h in
    let p = is_payload (payload_of row) k.left in
    let joined = sym (append_assoc before (row ∷ []) done) in
    let fewer : count (given ((before ++ (row ∷ [])) ++ done)) ≤ 2000000 = subst (λ l. count (given l) ≤ 2000000) joined few in
    let here = no_fault before row p.0 p.1 (below _ _ (count_given (before ++ (row ∷ [])) done) fewer) in
    ap (λ o. option_or o (first_fault (before ++ (row ∷ [])) (done ++ left))) here
    ∙ first_behind (before ++ (row ∷ [])) done left k.right fewer ∙ ap (λ l. first_fault l left) (sym joined)
  where
    below : (a b : ℕ) → a ≤ b → b ≤ 2000000 → a ≤ 2000000
    below a b h k = omega (arith, h, k)

pub none_left : (o p : Option VrpError) → option_or o p ≡ None → (o ≡ None) × (p ≡ None)
none_left None p e = (refl, e)
none_left (Some x) p e = cc e

-- where rows have no fault, they are readable and have few payloads
pub few_behind : (before done left : List Record) → first_fault before (done ++ left) ≡ None → count (given before) ≤ 2000000 → count (given (before ++ done)) ≤ 2000000
few_behind before [] left e few = subst (λ l. count (given l) ≤ 2000000) (sym (append-nil before)) few
few_behind before (row ∷ done) left e few =
    let k = none_left (fault_of before row) (first_fault (before ++ (row ∷ [])) (done ++ left)) e in
    subst (λ l. count (given l) ≤ 2000000) (append_assoc before (row ∷ []) done)
    (few_behind (before ++ (row ∷ [])) done left k.1 (few_after before row k.0))

-- the number of a list with the members of another one, in rising order
pub count_same : (vs new : List VrpValue) → IsRising new → ((q : VrpValue) → stands_in new q ≡ stands_in vs q) → count (set_of vs) ≡ length new
count_same vs new rising members = ap count (sym (same_set_of new vs members)) ∙ count_set_of new rising

-- a payload put behind a list with the members of another one
pub joins : (v : VrpValue) (old mid new : List VrpValue) → IsSound v → ((q : VrpValue) → stands_in mid q ≡ stands_in old q) → new ≡ mid ++ (v ∷ []) → JoinsIn v old new
joins v old mid new sound members e = record { sound = sound; members = λ q. ap (λ l. stands_in l q) e ∙ stands_in-push mid v q ∙ ap (λ b. eq_by_cmp vrp_cmp q v || b) (members q) }
