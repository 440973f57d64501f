-- What a file of payloads stands for: the set of its payloads, or the fault of its first faulty row.
use Rattle.std.specs.Prelude.{ℕ, ◌+◌, nat_lt, List, [], ◌∷◌, ◌++◌, length, drop, map, Option, option_map, Result, Ok, Err, ◌≡◌}
use Rattle.std.specs.Bool.{then_some}
use Rattle.std.specs.Option.{option_or}
use Rattle.csv.specs.Reading.{records, default_config, strip_bom}
use Rattle.std.specs.FinMap as fin
use Rattle.std.specs.List.{filter_map}
use Rattle.std.specs.Result.{result_ok, result_err}
use Rattle.net_names.specs.Steps.{unless, first_fault}
use Rattle.roa_table.specs.Sets.{Payloads}
use Rattle.roa_table.specs.Records.{payload_of}
use Rattle.roa_table.specs.declared.errors.VrpError.{VrpError}
use Rattle.roa_table.specs.declared.errors.VrpError.TheVariants as fault
use Rattle.roa_table.specs.declared.table.TheConstants.{MOST_PAYLOADS}

-- the rows of a file, each the list of its fields: its records behind the first one, which is the header (RFC 4180; the records are those of the csv crate, with commas, after a byte order mark)
abbrev pub rows_of : List ℕ → List (List (List ℕ))
rows_of file = drop 1 (records default_config (strip_bom file))

-- the set of the payloads that rows give
abbrev pub given : List (List (List ℕ)) → Payloads
given rows = fin.from_entries (map (λ v. (v, tt)) (filter_map (λ r. result_ok (payload_of r)) rows))

-- the fault of a row behind others: what is wrong with it, or else that the rows up to it give more than 2,000,000 payloads; rows are numbered from the header on, which is the first (own format)
abbrev pub fault_of : List (List (List ℕ)) → List (List ℕ) → Option VrpError
fault_of done row = option_map (λ e. e (length done + 2)) (option_or (result_err (payload_of row))
    (then_some (nat_lt MOST_PAYLOADS (fin.len (given (done ++ row ∷ [])))) fault.TooMany))

-- the set of the payloads that the rows of a file give, or the fault of its first faulty row
abbrev pub payloads_in : List ℕ → Result Payloads VrpError
payloads_in file = unless (first_fault fault_of [] (rows_of file)) (Ok (given (rows_of file)))

-- the answer is the value, unless memory ran out
abbrev pub Gives : Result Payloads VrpError → Result Payloads VrpError → Type 0
Gives (Ok vrps) value = value ≡ Ok vrps
Gives (Err fault.Memory) value = Unit {0}
Gives (Err e) value = value ≡ Err e
