-- What the payloads of a file are, said of all its rows at once.
use Rattle.std.specs.Prelude.{◌≡◌, ℕ, ◌+◌, ◌-◌, ◌<◌, ◌≤◌, ◌↔◌, List, [], length, take, All, Some, Ok, Err, IsOk, IsTrue}
use Rattle.std.specs.List.{Any}
use Rattle.std.specs.FinMap as fin
use Rattle.net_names.specs.Steps.{first_fault}
use Rattle.net_names.specs.Payloads.{VrpValue}
use Rattle.roa_table.specs.Sets.{Payloads}
use Rattle.roa_table.specs.Records.{payload_of}
use Rattle.roa_table.specs.Standing.{Record}
use Rattle.roa_table.specs.Files.{rows_of, given, fault_of, payloads_in}
use Rattle.roa_table.specs.declared.errors.VrpError.{VrpError}
use Rattle.roa_table.specs.declared.errors.VrpError.TheVariants as fault
use Rattle.roa_table.specs.declared.table.TheConstants.{MOST_PAYLOADS}

-- rows that have payloads: each gives one, and 2,000,000 different ones are given at most
pub record HasPayloads (rows : List Record) : Type 0 where
  pub readable : All (λ row. IsOk (payload_of row)) rows
  pub few : fin.len (given rows) ≤ MOST_PAYLOADS

-- a file is accepted exactly where its rows have payloads
abbrev pub AcceptedExactly : Type 0
AcceptedExactly = (bytes : List ℕ) → IsOk (payloads_in bytes) ↔ HasPayloads (rows_of bytes)

-- a payload is in the set of an accepted file exactly where some row gives it
abbrev pub GivenExactly : Type 0
GivenExactly = (bytes : List ℕ) (set : Payloads) (v : VrpValue) → payloads_in bytes ≡ Ok set → IsTrue (fin.contains_key set v) ↔ Any (λ row. payload_of row ≡ Ok v) (rows_of bytes)

-- the number of the row that a fault names, counted from the header on, which is the first; want of memory names none
abbrev pub row_of : VrpError → ℕ
row_of fault.Memory = 0
row_of (fault.Fields row) = row
row_of (fault.BadAsn row) = row
row_of (fault.BadPrefix row) = row
row_of (fault.BadMax row) = row
row_of (fault.TooMany row) = row

-- the fault's row is the first one at which the rows up to it, without the header, have no payloads, and this is their first fault
pub record IsFirstFaulty (rows : List Record) (e : VrpError) : Type 0 where
  pub inside : row_of e ≤ length rows + 1
  pub before : (row : ℕ) → row < row_of e → HasPayloads (take (row - 1) rows)
  pub here : first_fault fault_of [] (take (row_of e - 1) rows) ≡ Some e

-- the fault of a file names its first faulty row
abbrev pub FirstFaulty : Type 0
FirstFaulty = (bytes : List ℕ) (e : VrpError) → payloads_in bytes ≡ Err e → IsFirstFaulty (rows_of bytes) e
