-- The printed text of a validation state: a line for the state, and a row for each payload.
use Rattle.std.specs.Prelude.{ℕ, List, ◌∷◌, [], ◌++◌, codes, decimal}
use Rattle.std.specs.List.{flat_map}
use Rattle.net_names.specs.Payloads.{VrpValue}
use Rattle.net_names.specs.Texts.{prefix_text}
use Rattle.net_names.specs.declared.routes.State.{State}
use Rattle.net_names.specs.declared.routes.State.TheVariants.{Valid, Invalid, NotFound}
use Rattle.stability_laws.specs.EntryTexts.{row}

-- the word for a validation state (own format)
abbrev pub state_word : State → List ℕ
state_word s = elim s [ Valid ↦ codes "valid" | Invalid ↦ codes "invalid" | NotFound ↦ codes "not-found" ]

-- the row of a payload: its number, `|`, its prefix, `|`, its maximum length and a line feed (own format)
abbrev pub payload_row : VrpValue → List ℕ
payload_row v = row (decimal v.asn ∷ prefix_text v.prefix ∷ decimal v.max ∷ [])

-- the line of a validation state, and the row of each payload that covers the prefix (own format)
abbrev pub validity_text : State → List VrpValue → List ℕ
validity_text s vrps = row (codes "state" ∷ state_word s ∷ []) ++ flat_map payload_row vrps
