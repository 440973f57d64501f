-- How far a file has been read.
use Rattle.std.specs.Prelude.{◌≡◌, ℕ, ◌+◌, ◌<◌, ◌≤◌, ◌||◌, true, List, [], ◌++◌, length, Option, Some, None, Result, Ok, Err, IsErr, is_ok, ⊤}
use Rattle.std.specs.List.{list_all}
use Rattle.std.specs.Ordering.{eq_by_cmp}
use Rattle.net_names.specs.Payloads.{VrpValue, vrp_cmp}
use Rattle.roa_table.specs.Sets.{Payloads, count, set_of, IsSound}
use Rattle.roa_table.specs.Lists.{IsRising, stands_in}
use Rattle.roa_table.specs.Records.{payload_of}
use Rattle.net_names.specs.Steps.{first_fault}
use Rattle.roa_table.specs.Files.{rows_of, given, fault_of}
use Rattle.csv.specs.declared.parser.State.TheVariants as st
use Rattle.roa_table.specs.Plain.{IsLineEnd}
use Rattle.roa_table.specs.Standing.{Record, ByteReader, records_left, Stands}
use Rattle.roa_table.specs.Judging.{fault_at, payloads_of}
use Rattle.roa_table.specs.declared.errors.VrpError.{VrpError}
use Rattle.roa_table.specs.declared.errors.VrpError.TheVariants as fault
use Rattle.roa_table.specs.declared.gather.Stop.{Stop}
use Rattle.roa_table.specs.declared.gather.Stop.TheVariants as stop
use Rattle.roa_table.specs.declared.table.TheConstants.{MOST_PAYLOADS}

-- each payload of the list is sound
abbrev pub AllSound : List VrpValue → Type 0
AllSound vs = (v : VrpValue) → stands_in vs v ≡ true → IsSound v

-- the new list has the payload and those of the old list
pub record JoinsIn (v : VrpValue) (old new : List VrpValue) : Type 0 where
  pub sound : IsSound v
  pub members : (q : VrpValue) → stands_in new q ≡ (eq_by_cmp vrp_cmp q v || stands_in old q)

-- the payload of a record has been gathered
abbrev pub Gathers : Result VrpValue VrpError → List VrpValue → List VrpValue → Type 0
Gathers (Ok v) old new = JoinsIn v old new
Gathers (Err e) old new = ⊥

-- why the payload of a record has not been gathered: it has none, there are more than 2,000,000 already, or memory ran out
abbrev pub StopsAt : Result VrpValue VrpError → List VrpValue → Stop → Type 0
StopsAt outcome old (stop.Fault e) = (outcome ≡ Err e) × (count (set_of old) ≤ MOST_PAYLOADS)
StopsAt outcome old stop.Crowded = MOST_PAYLOADS < count (set_of old)
StopsAt outcome old stop.Memory = ⊤

-- the payloads in rising order, where they are 2,000,000 at most
pub record IsTidied (old new : List VrpValue) : Type 0 where
  pub rising : IsRising new
  pub few : length new ≤ MOST_PAYLOADS
  pub members : (q : VrpValue) → stands_in new q ≡ stands_in old q

-- why gathered payloads are not answered where this fault came behind them: by the fault, or since they are too many
abbrev pub EndsWith : VrpError → List VrpValue → Stop → Type 0
EndsWith found old (stop.Fault e) = (e ≡ found) × (count (set_of old) ≤ MOST_PAYLOADS)
EndsWith found old stop.Crowded = MOST_PAYLOADS < count (set_of old)
EndsWith found old stop.Memory = ⊥

-- all payloads of a file, in rising order
pub record AreAll (vs : List VrpValue) (value : Result Payloads VrpError) : Type 0 where
  pub rising : IsRising vs
  pub few : length vs ≤ MOST_PAYLOADS
  pub sound : AllSound vs
  pub is : value ≡ Ok (set_of vs)

-- why a file's payloads are not answered: memory ran out, it has some fault, which may be of its limit, or it has this one
abbrev pub Explains : Stop → Result Payloads VrpError → Type 0
Explains stop.Memory value = ⊤
Explains stop.Crowded value = IsErr value
Explains (stop.Fault e) value = value ≡ Err e

-- of a file's rows these have been read, and those are still to come
pub record IsReading (reader : ByteReader) (bytes : List ℕ) (row : ℕ) : Type 0 where
  pub done : List Record
  pub left : List Record
  pub rows : rows_of bytes ≡ done ++ left
  pub stands : Stands reader left
  pub counted : row ≡ length done + 2

-- the payloads of a file's rows before these have been gathered, and the first of these has this number
pub record HasGathered (bytes : List ℕ) (left : List Record) (row : ℕ) (vs : List VrpValue) : Type 0 where
  pub done : List Record
  pub rows : rows_of bytes ≡ done ++ left
  pub counted : row ≡ length done + 2
  pub readable : list_all (λ r. is_ok (payload_of r)) done ≡ true
  pub members : (q : VrpValue) → stands_in vs q ≡ stands_in (payloads_of done) q
  pub sound : AllSound vs

-- the payloads of the rows before those that the reader has still to read have been gathered
pub record IsGathering (reader : ByteReader) (bytes : List ℕ) (row : ℕ) (vs : List VrpValue) : Type 0 where
  pub left : List Record
  pub gathered : HasGathered bytes left row vs
  pub stands : Stands reader left

-- the payloads of the rows before those of this text have been gathered, and a line ends where the text begins
pub record IsAtLine (text : List ℕ) (bytes : List ℕ) (row : ℕ) (vs : List VrpValue) : Type 0 where
  pub gathered : HasGathered bytes (records_left st.StartRecord text) row vs
  pub ends : IsLineEnd text

-- the payload of a record of this number has been let in, where it is no fault
abbrev pub Admits : ℕ → Result VrpValue VrpError → List VrpValue → List VrpValue → Type 0
Admits row (Ok v) old new = (fault_at (set_of old) row (Ok v) ≡ None) × ((q : VrpValue) → stands_in new q ≡ (eq_by_cmp vrp_cmp q v || stands_in old q))
Admits row (Err e) old new = ⊥

-- the record's fault, unless memory ran out
abbrev pub Faults : VrpError → Option VrpError → Type 0
Faults fault.Memory found = ⊤
Faults e found = found ≡ Some e

-- the rows that have been read have no fault, and their payloads stand in the list
pub record IsAdmitting (reader : ByteReader) (bytes : List ℕ) (row : ℕ) (vs : List VrpValue) : Type 0 where
  pub reading : IsReading reader bytes row
  pub few : count (given reading.done) ≤ MOST_PAYLOADS
  pub free : first_fault fault_of [] (rows_of bytes) ≡ first_fault fault_of reading.done reading.left
  pub members : (q : VrpValue) → stands_in vs q ≡ stands_in (payloads_of reading.done) q
