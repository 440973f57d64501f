-- Payloads that are let in one after the other, up to the first fault of a file.
use Rattle.std.proofs.Common.{◌≡◌, ℕ, ◌+◌, ◌≤◌, ◌<◌, Bool, true, false, cond, ◌||◌, List, [], ◌∷◌, ◌++◌, length, refl, sym, ap, subst, ◌∙◌, arith, Some, None, Result, Ok, Err, ◌⊎◌, inl, inr}
use Rattle.std.specs.Prelude.{nat_lt, IsErr}
use Rattle.std.specs.BTreeSet.{insert_key}
use Rattle.std.specs.declared.cmp.Ordering.{Ordering}
use Rattle.std.specs.declared.cmp.Ordering.TheVariants.{Less, Equal, Greater}
use Rattle.std.specs.Ordering.{eq_by_cmp, match_ordering}
use Rattle.std.specs.List.Sorted.{IsStrictlySortedBy}
use Rattle.std.proofs.lemmas.Bool.Decides.{nat_tests}
use Rattle.csv.specs.Reading.{records, default_config, strip_bom}
use Rattle.std.specs.Option.{option_or}
use Rattle.std.specs.Result.{result_map_both}
use Rattle.std.specs.FinMap as fin
use Rattle.net_names.specs.Steps.{unless}
use Rattle.net_names.specs.Payloads.{VrpValue, vrp_cmp}
use Rattle.net_names.specs.Orders.{exact_vrp}
use Rattle.roa_table.specs.Sets.{has, count, set_of}
use Rattle.roa_table.specs.Lists.{stands_in}
use Rattle.roa_table.specs.Records.{payload_of}
use Rattle.roa_table.specs.Files.{rows_of, given, fault_of, payloads_in, Gives}
use Rattle.roa_table.specs.Standing.{Record, ByteReader, GoesOn}
use Rattle.roa_table.specs.Judging.{judged, payloads_of, fault_at}
use Rattle.roa_table.specs.Gathering.{IsReading, Admits, Faults, IsAdmitting}
use Rattle.roa_table.specs.declared.errors.VrpError.{VrpError}
use Rattle.roa_table.specs.declared.errors.VrpError.TheVariants as fault
use Rattle.roa_table.proofs.Rising.{rising_from_strictly}
use Rattle.roa_table.proofs.Placed.{has_set_of, same_set_of, count_set_of}
use Rattle.roa_table.proofs.CsvRecords.{ended, more}
use Rattle.roa_table.proofs.Gathered.{first_fault, few_after, fault_of-is, stands_in-push, payloads_of-push}
use Rattle.roa_table.proofs.Reading.{begun, left_is, read_on}

-- the members after a payload was put in its place
pub any_insert_key : (vs : List VrpValue) (v q : VrpValue) → stands_in (insert_key vrp_cmp vs v) q ≡ (eq_by_cmp vrp_cmp q v || stands_in vs q)
any_insert_key [] v q = refl
any_insert_key (x ∷ vs) v q = by (vrp_cmp v x) refl (any_insert_key vs v q)
  where
    twice : (a b : Bool) → (a || b) ≡ (a || (a || b))
    twice true b = refl
    twice false b = refl

    turn : (a b c : Bool) → (a || (b || c)) ≡ (b || (a || c))
    turn true true c = refl
    turn true false c = refl
    turn false b c = refl

    by : (r : Ordering) → vrp_cmp v x ≡ r → stands_in (insert_key vrp_cmp vs v) q ≡ (eq_by_cmp vrp_cmp q v || stands_in vs q)
        → stands_in (match_ordering r (v ∷ (x ∷ vs)) (x ∷ vs) (x ∷ insert_key vrp_cmp vs v)) q ≡ (eq_by_cmp vrp_cmp q v || (eq_by_cmp vrp_cmp q x || stands_in vs q))
    by Less e h = refl
    by Equal e h = twice (eq_by_cmp vrp_cmp q x) (stands_in vs q) ∙ ap (λ y. eq_by_cmp vrp_cmp q y || (eq_by_cmp vrp_cmp q x || stands_in vs q)) (sym (exact_vrp v x e))
    by Greater e h = ap (λ b. eq_by_cmp vrp_cmp q x || b) h ∙ turn (eq_by_cmp vrp_cmp q x) (eq_by_cmp vrp_cmp q v) (stands_in vs q)

module _ (vs : List VrpValue) (ordered : IsStrictlySortedBy vrp_cmp vs) (row : ℕ) (v : VrpValue) where
  number : count (set_of vs) ≡ length vs
  number = count_set_of vs (rising_from_strictly vrp_cmp vs ordered)

  -- a new payload that finds 2,000,000 is a fault
  pub too_many : stands_in vs v ≡ false → 2000000 ≤ length vs → fault_at (set_of vs) row (Ok v) ≡ Some (fault.TooMany row)
  too_many absent full =
      let none : nat_lt (count (set_of vs)) 2000000 ≡ false = grind (arith, nat_tests, number, full) in
      (λ i. cond ((has_set_of vs v ∙ absent) i || none i) None (Some (fault.TooMany row)))

  -- one that is known or finds room is none
  pub no_fault_of : (stands_in vs v ≡ true) ⊎ (length vs < 2000000) → fault_at (set_of vs) row (Ok v) ≡ None
  no_fault_of (inl known) = ap (λ b. cond (b || nat_lt (count (set_of vs)) 2000000) None (Some (fault.TooMany row))) (has_set_of vs v ∙ known)
  no_fault_of (inr few) =
      let room : nat_lt (count (set_of vs)) 2000000 ≡ true = grind (arith, nat_tests, number, few) in
      ap (λ b. cond (has (set_of vs) v || b) None (Some (fault.TooMany row))) room ∙ by (has (set_of vs) v)
    where
      by : (b : Bool) → cond (b || true) None (Some (fault.TooMany row)) ≡ None
      by true = refl
      by false = refl

  pub admits : (new : List VrpValue) → (stands_in vs v ≡ true) ⊎ (length vs < 2000000) → new ≡ insert_key vrp_cmp vs v → Admits row (Ok v) vs new
  admits new room e = (no_fault_of room, λ q. ap (λ l. stands_in l q) e ∙ any_insert_key vs v q)

-- a file with an error has one
pub no_value : (bytes : List ℕ) → first_fault [] (rows_of bytes) ≡ None → IsErr (payloads_in bytes) → ⊥
no_value bytes e h = cc (subst (λ o. IsErr (unless o (Ok (given (rows_of bytes))))) e h)

pub start_admitting : (b : ByteReader) (bytes : List ℕ) (fields : Record) (vs : List VrpValue) → vs ≡ [] → GoesOn b (records default_config (strip_bom bytes)) true fields → IsAdmitting b bytes 2 vs
unfolding begun
start_admitting b bytes fields vs e h = subst (IsAdmitting b bytes 2) (sym e) (by (begun b bytes fields h) refl)
  where
    by : (r : IsReading b bytes 2) → r.done ≡ [] → IsAdmitting b bytes 2 []
    by r none = record { reading = r; few = subst (λ l. count (given l) ≤ 2000000) (sym none) (rw (fin.len-empty vrp_cmp (Unit {0})) (omega arith)); free = ap (first_fault []) (r.rows ∙ ap (λ l. l ++ r.left) none) ∙ ap (λ l. first_fault l r.left) (sym none); members = λ q. ap (λ l. stands_in (payloads_of l) q) (sym none) }

module _ (a b : ByteReader) (bytes : List ℕ) (row : ℕ) (vs : List VrpValue) (g : IsAdmitting a bytes row vs) (fields : Record) where
  -- all rows have been read
  pub none_faulty : GoesOn b g.reading.left false fields → first_fault [] (rows_of bytes) ≡ None
  none_faulty h = g.free ∙ ap (first_fault g.reading.done) (ended b g.reading.left fields h)

  module _ (h : GoesOn b g.reading.left true fields) where
    abbrev next : List Record
    next = (more b g.reading.left fields h).next

    fault_is : fault_of g.reading.done fields ≡ fault_at (set_of vs) row (judged row fields)
    fault_is =
        fault_of-is g.reading.done fields g.few
        ∙ (λ i. fault_at (sym (same_set_of vs (payloads_of g.reading.done) g.members) i) (sym g.reading.counted i) (judged (sym g.reading.counted i) fields))

    first_is : first_fault [] (rows_of bytes) ≡ option_or (fault_at (set_of vs) row (judged row fields)) (first_fault (g.reading.done ++ (fields ∷ [])) next)
    first_is =
        g.free ∙ ap (first_fault g.reading.done) (left_is a b bytes row g.reading fields h)
        ∙ ap (λ o. option_or o (first_fault (g.reading.done ++ (fields ∷ [])) next)) fault_is

    -- the row has a fault
    pub admitted_fault : (e : VrpError) → Faults e (fault_at (set_of vs) row (judged row fields)) → Gives (Err e) (payloads_in bytes)
    admitted_fault e f = by e f
      where
        up : (e : VrpError) → fault_at (set_of vs) row (judged row fields) ≡ Some e → payloads_in bytes ≡ Err e
        up e f = ap (λ o. unless o (Ok (given (rows_of bytes)))) (first_is ∙ ap (λ o. option_or o (first_fault (g.reading.done ++ (fields ∷ [])) next)) f)

        by : (e : VrpError) → Faults e (fault_at (set_of vs) row (judged row fields)) → Gives (Err e) (payloads_in bytes)
        by fault.Memory f = tt
        by (fault.Fields r) f = up (fault.Fields r) f
        by (fault.BadAsn r) f = up (fault.BadAsn r) f
        by (fault.BadPrefix r) f = up (fault.BadPrefix r) f
        by (fault.BadMax r) f = up (fault.BadMax r) f
        by (fault.TooMany r) f = up (fault.TooMany r) f

    -- the row's payload was let in
    pub admitted_on : (new : List VrpValue) → Admits row (judged row fields) vs new → IsAdmitting b bytes (row + 1) new
    unfolding read_on
    admitted_on new j = by (payload_of fields) refl j
      where
        by : (p : Result VrpValue (ℕ → VrpError)) → payload_of fields ≡ p → Admits row (result_map_both (λ v. v) (λ e. e row) p) vs new → IsAdmitting b bytes (row + 1) new
        by (Err w) e k = absurd k
        by (Ok v) e k =
            let none : fault_at (set_of vs) row (judged row fields) ≡ None = ap (λ p. fault_at (set_of vs) row (result_map_both (λ v. v) (λ e. e row) p)) e ∙ k.0 in record {
              reading = read_on a b bytes row g.reading fields h;
              few = few_after g.reading.done fields (fault_is ∙ none);
              free = first_is ∙ ap (λ o. option_or o (first_fault (g.reading.done ++ (fields ∷ [])) next)) none;
              members = λ q. k.1 q ∙ ap (λ x. eq_by_cmp vrp_cmp q v || x) (g.members q) ∙ sym (ap (λ l. stands_in l q) (payloads_of-push g.reading.done fields v e) ∙ stands_in-push (payloads_of g.reading.done) v q);
            }
