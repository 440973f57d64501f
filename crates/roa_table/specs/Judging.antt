-- How one row is judged.
use Rattle.std.specs.Prelude.{ℕ, ◌||◌, ◌==◌, nat_lt, List, length, Option, Some, None, Result, Ok, Err, if◌then◌else◌}
use Rattle.std.specs.FinMap as fin
use Rattle.std.specs.List.{filter_map}
use Rattle.std.specs.Result.{result_ok, result_map_both}
use Rattle.net_names.specs.Payloads.{VrpValue}
use Rattle.net_names.specs.Prefixes.{PrefixValue}
use Rattle.net_names.specs.Texts.{numeral}
use Rattle.roa_table.specs.Sets.{Payloads}
use Rattle.roa_table.specs.Records.{payload_of}
use Rattle.roa_table.specs.declared.errors.VrpError.{VrpError}
use Rattle.roa_table.specs.declared.errors.VrpError.TheVariants as fault
use Rattle.roa_table.specs.declared.table.TheConstants.{MOST_PAYLOADS}

-- the maximum length that a text says: the prefix's own length where it is empty, and else a number of 1 to 3 digits
abbrev pub max_of : PrefixValue → List ℕ → Option ℕ
max_of p text = if length text == 0 then Some p.len else numeral 10 3 text

-- the payload of a record in a row of this number, or the row's fault
abbrev pub judged : ℕ → List (List ℕ) → Result VrpValue VrpError
judged n fields = result_map_both (λ v. v) (λ e. e n) (payload_of fields)

-- the payloads that rows give, in their order
abbrev pub payloads_of : List (List (List ℕ)) → List VrpValue
payloads_of rows = filter_map (λ r. result_ok (payload_of r)) rows

-- the fault of a row of this number, where these payloads stand: it gives none, or one that is new while 2,000,000 stand
abbrev pub fault_at : Payloads → ℕ → Result VrpValue VrpError → Option VrpError
fault_at before n (Err e) = Some e
fault_at before n (Ok v) = if fin.contains_key before v || nat_lt (fin.len before) MOST_PAYLOADS then None else Some (fault.TooMany n)
