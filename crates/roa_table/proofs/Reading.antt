-- How far a file has been read, and what it comes to.
use Rattle.std.proofs.Common.{◌≡◌, ℕ, ◌+◌, ◌≤◌, ◌<◌, true, false, ◌||◌, List, [], ◌∷◌, ◌++◌, drop, refl, sym, ap, subst, ◌∙◌, arith, Option, Some, None, Result, Ok, Err, inl, inr, ◌⊎◌, append_assoc, append-nil}
use Rattle.std.specs.Prelude.{is_ok, IsErr}
use Rattle.std.specs.Ordering.{eq_by_cmp}
use Rattle.std.proofs.lemmas.List.{length-append}
use Rattle.csv.specs.Reading.{records, default_config, strip_bom}
use Rattle.std.specs.Option.{option_or}
use Rattle.std.specs.Result.{result_map_both}
use Rattle.net_names.specs.Steps.{unless}
use Rattle.net_names.specs.Payloads.{VrpValue, vrp_cmp}
use Rattle.net_names.specs.Orders.{vrp_total, exact_vrp}
use Rattle.roa_table.specs.Sets.{IsSound, count, set_of}
use Rattle.roa_table.specs.Lists.{stands_in}
use Rattle.roa_table.specs.Records.{payload_of}
use Rattle.roa_table.specs.Files.{rows_of, given, payloads_in}
use Rattle.csv.specs.declared.parser.State.TheVariants as st
use Rattle.roa_table.specs.Standing.{Record, ByteReader, records_left, Stands, GoesOn}
use Rattle.roa_table.specs.Plain.{BeginsWith}
use Rattle.roa_table.specs.Judging.{judged, payloads_of}
use Rattle.roa_table.specs.Gathering.{JoinsIn, Gathers, StopsAt, IsTidied, AreAll, Explains, IsReading, HasGathered, IsGathering, IsAtLine}
use Rattle.roa_table.specs.declared.errors.VrpError.{VrpError}
use Rattle.roa_table.specs.declared.gather.Stop.{Stop}
use Rattle.roa_table.specs.declared.gather.Stop.TheVariants as stops
use Rattle.net_names.proofs.Shortening.{both_true}
use Rattle.roa_table.proofs.Booleans.{list_all_append, either_true}
use Rattle.roa_table.proofs.Rising.{eq_is}
use Rattle.roa_table.proofs.Placed.{same_set_of, count_set_of}
use Rattle.roa_table.proofs.CsvRecords.{ended, more}
use Rattle.roa_table.proofs.PlainRows.{strip_bom-line_end}
use Rattle.roa_table.proofs.Gathered.{first_fault, faulty, stands_in-push, payloads_of-push, first_behind, few_behind}

-- the file has no header, and so no rows
pub no_rows : (b : ByteReader) (bytes : List ℕ) (fields : Record) → GoesOn b (records default_config (strip_bom bytes)) false fields → rows_of bytes ≡ []
no_rows b bytes fields h = ap (drop 1) (ended b (records default_config (strip_bom bytes)) fields h)

-- the rows are what is left behind the header
pub rows_behind : (b : ByteReader) (bytes : List ℕ) (fields : Record) (h : GoesOn b (records default_config (strip_bom bytes)) true fields) → rows_of bytes ≡ (more b (records default_config (strip_bom bytes)) fields h).next
rows_behind b bytes fields h =
    let m = more b (records default_config (strip_bom bytes)) fields h in
    ap (drop 1) m.is ∙ drop_zero m.next
  where
    drop_zero : (xs : List Record) → drop 0 xs ≡ xs
    drop_zero [] = refl
    drop_zero (x ∷ xs) = refl

-- the header has been read
unfoldable pub begun : (b : ByteReader) (bytes : List ℕ) (fields : Record) → GoesOn b (records default_config (strip_bom bytes)) true fields → IsReading b bytes 2
begun b bytes fields h =
    let m = more b (records default_config (strip_bom bytes)) fields h in
    record { done = []; left = m.next; rows = rows_behind b bytes fields h; stands = m.stands; counted = refl }

-- one row more has been read
module _ (a b : ByteReader) (bytes : List ℕ) (row : ℕ) (r : IsReading a bytes row) (fields : Record) (h : GoesOn b r.left true fields) where
  pub left_is : r.left ≡ fields ∷ (more b r.left fields h).next
  left_is = (more b r.left fields h).is

  unfoldable pub read_on : IsReading b bytes (row + 1)
  read_on =
      let m = more b r.left fields h in
      record {
        done = r.done ++ (fields ∷ []);
        left = m.next;
        rows = r.rows ∙ ap (λ l. r.done ++ l) m.is ∙ sym (append_assoc r.done (fields ∷ []) m.next);
        stands = m.stands;
        counted = ap (λ n. n + 1) r.counted ∙ omega (arith, length-append r.done (fields ∷ []));
      }

-- no row has been read
pub start_gathering : (bytes : List ℕ) (left : List Record) (vs : List VrpValue) → rows_of bytes ≡ left → vs ≡ [] → HasGathered bytes left 2 vs
start_gathering bytes left vs rows e = subst (HasGathered bytes left 2) (sym e) (record { done = []; rows = rows; counted = refl; readable = refl; members = λ q. refl; sound = λ v k. cc k })

module _ (bytes : List ℕ) (left : List Record) (row : ℕ) (vs : List VrpValue) (g : HasGathered bytes left row vs) where
  set_is : set_of vs ≡ given g.done
  set_is = same_set_of vs (payloads_of g.done) g.members

  few_given : count (set_of vs) ≤ 2000000 → count (given g.done) ≤ 2000000
  few_given = subst (λ s. count s ≤ 2000000) set_is

  -- the first fault of the file, where the payloads are few
  first_left : count (set_of vs) ≤ 2000000 → first_fault [] (rows_of bytes) ≡ first_fault g.done left
  first_left few = ap (first_fault []) g.rows ∙ first_behind [] g.done left g.readable (few_given few)

  -- where there are too many payloads, the file has some fault
  pub crowd : 2000000 < count (set_of vs) → IsErr (payloads_in bytes)
  crowd many = by (first_fault [] (rows_of bytes)) refl
    where
      by : (o : Option VrpError) → first_fault [] (rows_of bytes) ≡ o → IsErr (unless o (Ok (given (rows_of bytes))))
      by (Some e) f = refl
      by None f = absurd (omega (arith, many, subst (λ s. count s ≤ 2000000) (sym set_is) (few_behind [] g.done left (sym (ap (first_fault []) g.rows) ∙ f) empty)))
        where
          empty : count (given []) ≤ 2000000
          empty = subst (λ n. n ≤ 2000000) (sym (count_set_of [] refl)) (omega arith)

  module _ (fields : Record) (next : List Record) (left_has : left ≡ fields ∷ next) where
    -- a row's payload was gathered
    pub gathered_on : (outcome : Result VrpValue VrpError) → outcome ≡ judged row fields → (new : List VrpValue) → Gathers outcome vs new → HasGathered bytes next (row + 1) new
    gathered_on outcome is new j = by (payload_of fields) refl (subst (λ o. Gathers o vs new) is j)
      where
        by : (p : Result VrpValue (ℕ → VrpError)) → payload_of fields ≡ p → Gathers (result_map_both (λ v. v) (λ e. e row) p) vs new → HasGathered bytes next (row + 1) new
        by (Err w) e k = absurd k
        by (Ok v) e k = record {
          done = g.done ++ (fields ∷ []);
          rows = g.rows ∙ ap (λ l. g.done ++ l) left_has ∙ sym (append_assoc g.done (fields ∷ []) next);
          counted = ap (λ n. n + 1) g.counted ∙ omega (arith, length-append g.done (fields ∷ []));
          readable = list_all_append (λ r. is_ok (payload_of r)) g.done (fields ∷ []) g.readable (both_true _ _ (ap is_ok e) refl);
          members = λ q. k.members q ∙ ap (λ x. eq_by_cmp vrp_cmp q v || x) (g.members q) ∙ sym (ap (λ l. stands_in l q) (payloads_of-push g.done fields v e) ∙ stands_in-push (payloads_of g.done) v q);
          sound = λ q m. sound q v k (either_true (eq_by_cmp vrp_cmp q v) (stands_in vs q) (sym (k.members q) ∙ m));
        }
          where
            sound : (q x : VrpValue) → JoinsIn x vs new → (eq_by_cmp vrp_cmp q x ≡ true) ⊎ (stands_in vs q ≡ true) → IsSound q
            sound q x j (inl e) = subst IsSound (sym (eq_is vrp_total exact_vrp q x e)) j.sound
            sound q x j (inr e) = g.sound q e

    -- the row has a fault
    gathered_fault : (e : VrpError) → judged row fields ≡ Err e → count (set_of vs) ≤ 2000000 → payloads_in bytes ≡ Err e
    gathered_fault e is few =
        let first : first_fault g.done left ≡ Some e =
        ap (first_fault g.done) left_has
        ∙ ap (λ o. option_or o (first_fault (g.done ++ (fields ∷ [])) next)) (faulty g.done fields e (ap (λ n. judged n fields) (sym g.counted) ∙ is)) in
        ap (λ o. unless o (Ok (given (rows_of bytes)))) (first_left few ∙ first)

    -- why the row's payload was not gathered explains why the file's are not answered
    pub stopped : (outcome : Result VrpValue VrpError) → outcome ≡ judged row fields → (stop : Stop) → StopsAt outcome vs stop → Explains stop (payloads_in bytes)
    stopped outcome is (stops.Fault e) h = gathered_fault e (sym is ∙ h.0) h.1
    stopped outcome is stops.Crowded h = crowd h
    stopped outcome is stops.Memory h = tt

  -- all rows have been read
  pub gathered_all : left ≡ [] → (new : List VrpValue) → IsTidied vs new → AreAll new (payloads_in bytes)
  gathered_all none new t =
      let same : set_of new ≡ set_of vs = same_set_of new vs t.members in
      let few : count (set_of vs) ≤ 2000000 = subst (λ n. n ≤ 2000000) (sym (count_set_of new t.rising) ∙ ap count same) t.few in
      let all : rows_of bytes ≡ g.done = g.rows ∙ ap (λ l. g.done ++ l) none ∙ append-nil g.done in
      record {
        rising = t.rising;
        few = t.few;
        sound = λ v m. g.sound v (sym (t.members v) ∙ m);
        is = ap (λ o. unless o (Ok (given (rows_of bytes)))) (first_left few ∙ ap (first_fault g.done) none) ∙ ap (λ l. Ok (given l)) all ∙ ap (λ s. Ok s) (sym (same ∙ set_is));
      }

-- the header has been read by a reader
pub start_reading : (b : ByteReader) (bytes : List ℕ) (fields : Record) (vs : List VrpValue) → vs ≡ [] → GoesOn b (records default_config (strip_bom bytes)) true fields → IsGathering b bytes 2 vs
start_reading b bytes fields vs e h =
    let m = more b (records default_config (strip_bom bytes)) fields h in
    record { left = m.next; gathered = start_gathering bytes m.next vs (rows_behind b bytes fields h) e; stands = m.stands }

-- a reader goes on where lines were read
pub read_from_line : (b : ByteReader) (text bytes : List ℕ) (row : ℕ) (vs : List VrpValue) → IsAtLine text bytes row vs → Stands b (records default_config (strip_bom text)) → IsGathering b bytes row vs
read_from_line b text bytes row vs g s = record {
  left = records_left st.StartRecord text;
  gathered = g.gathered;
  stands = subst (Stands b) (ap (records default_config) (strip_bom-line_end text g.ends)) s;
}

-- the reader has read one row more
pub row_gathered : (a b : ByteReader) (bytes : List ℕ) (row : ℕ) (vs new : List VrpValue) (g : IsGathering a bytes row vs) (fields : Record) → GoesOn b g.left true fields → (outcome : Result VrpValue VrpError) → outcome ≡ judged row fields
    → Gathers outcome vs new → IsGathering b bytes (row + 1) new
row_gathered a b bytes row vs new g fields h outcome is j =
    let m = more b g.left fields h in
    record { left = m.next; gathered = gathered_on bytes g.left row vs g.gathered fields m.next m.is outcome is new j; stands = m.stands }

pub row_stopped : (a b : ByteReader) (bytes : List ℕ) (row : ℕ) (vs : List VrpValue) (g : IsGathering a bytes row vs) (fields : Record) → GoesOn b g.left true fields → (outcome : Result VrpValue VrpError) → outcome ≡ judged row fields
    → (stop : Stop) → StopsAt outcome vs stop → Explains stop (payloads_in bytes)
row_stopped a b bytes row vs g fields h = let m = more b g.left fields h in stopped bytes g.left row vs g.gathered fields m.next m.is

-- one line more was read
pub line_gathered : (text left bytes : List ℕ) (row : ℕ) (vs new : List VrpValue) (outcome : Result VrpValue VrpError) → IsAtLine text bytes row vs → BeginsWith text row outcome left → Gathers outcome vs new → IsAtLine left bytes (row + 1) new
line_gathered text left bytes row vs new outcome g b j = record {
  gathered = gathered_on bytes (records_left st.StartRecord text) row vs g.gathered b.fields (records_left st.StartRecord left) b.is outcome b.gives new j;
  ends = b.ends;
}

pub line_stopped : (text left bytes : List ℕ) (row : ℕ) (vs : List VrpValue) (outcome : Result VrpValue VrpError) → IsAtLine text bytes row vs → BeginsWith text row outcome left → (stop : Stop) → StopsAt outcome vs stop → Explains stop (payloads_in bytes)
line_stopped text left bytes row vs outcome g b = stopped bytes (records_left st.StartRecord text) row vs g.gathered b.fields (records_left st.StartRecord left) b.is outcome b.gives

-- a file without rows
pub none_read : (bytes : List ℕ) (vs : List VrpValue) → rows_of bytes ≡ [] → vs ≡ [] → AreAll vs (payloads_in bytes)
none_read bytes vs none e = subst (λ l. AreAll l (payloads_in bytes)) (sym e) (record { rising = refl; few = omega arith; sound = λ v k. cc k; is = ap (λ l. unless (first_fault [] l) (Ok (given l))) none })
