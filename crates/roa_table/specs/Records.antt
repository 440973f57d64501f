-- The payload that a record of a file gives, or what is wrong with it.
use Rattle.std.specs.Prelude.{ℕ, ◌==◌, if◌then◌else◌, List, ◌∷◌, length, Some, option_and_then, ok_or, Result, Err}
use Rattle.net_names.specs.Trials.{◌>>=◌}
use Rattle.net_names.specs.Texts.{numeral, vrp_asn_of, prefix_of}
use Rattle.net_names.specs.Payloads.{VrpValue, vrp_at}
use Rattle.roa_table.specs.declared.errors.VrpError.{VrpError}
use Rattle.roa_table.specs.declared.errors.VrpError.TheVariants as fault

-- the payload of a record, or what is wrong with it, once it is told the number of its row: by its first three fields, the AS number, the prefix and the maximum length, which is the prefix's own length where its text is empty, and else a number of 1 to 3 digits, from the prefix's length to the family's width; further ones are not read (for the columns of the usual validators)
abbrev pub payload_of : List (List ℕ) → Result VrpValue (ℕ → VrpError)
payload_of (asn ∷ (prefix ∷ (max ∷ more))) = ok_or (vrp_asn_of asn) fault.BadAsn >>= λ n.
    ok_or (prefix_of prefix) fault.BadPrefix >>= λ p. ok_or (option_and_then (λ m. vrp_at p m n)
    (if length max == 0 then Some p.len else numeral 10 3 max)) fault.BadMax
payload_of _ = Err fault.Fields
