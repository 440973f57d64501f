-- What stands where in the tokens of a JSON text (RFC 8259, section 2), as serde_json reads it.
use Rattle.std.specs.Prelude.{◌≡◌, ℕ, List, Bool, true, Option, option_map, option_and_then, unwrap_or, is_some}
use Rattle.json.specs.Token.{Token, begin_object, end_object, begin_array, end_array, key, string, number, boolean, null as null_token, bad}
use Rattle.json.specs.Lex.{tokens}
use Rattle.json.specs.Json.{Json, value, if_last}
use Rattle.serde_json.specs.Data.{Data, null}
use Rattle.serde_json.specs.Read.{max_depth, number_of, of_json, converted}

-- the value that the text is, with at most 127 levels, whatever its numbers are (RFC 8259, section 9)
abbrev pub whole : List ℕ → Option Json
whole text = option_and_then (λ p. if_last p.0 p.1) (value max_depth (tokens text))

-- the value that the tokens begin with, with at most 127 levels and with numbers that a float or 64 bits hold (RFC 8259, sections 6 and 9)
unfoldable pub data_in : List Token → Option Data
data_in ts = option_map (λ p. p.0) (converted of_json (value max_depth ts))

-- the tokens begin with such a value
abbrev pub IsData : List Token → Type 0
IsData ts = is_some (data_in ts) ≡ true

-- that value, or null where there is none
abbrev pub data_at : List Token → Data
data_at ts = unwrap_or (data_in ts) null

-- a number is one that a float or 64 bits hold (RFC 8259, section 6)
abbrev pub fits : Token → Bool
fits begin_object = true
fits end_object = true
fits begin_array = true
fits end_array = true
fits (key s) = true
fits (string s) = true
fits (number s) = is_some (number_of s)
fits (boolean b) = true
fits null_token = true
fits bad = true
