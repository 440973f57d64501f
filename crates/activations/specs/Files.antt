-- A file of activations: its round and prefix, what ASes hold, and which ASes are activated, or the first fault (own format).
use Rattle.std.specs.Prelude.{◌≡◌, ℕ, ◌+◌, ◌==◌ as nat_eq, not, List, [], ◌∷◌, ◌++◌, map as each, length, nat_lt, bytes_eq, codes, Option, None, Some, option_map, option_and_then, ok_or, unwrap_or, Result, Ok, Err, if◌then◌else◌}
use Rattle.std.specs.List.{join_with_byte, starts_with}
use Rattle.std.specs.Option.{is_some, option_or}
use Rattle.std.specs.FinMap as map
use Rattle.net_names.specs.Lines.{said_on}
use Rattle.net_names.specs.Steps.{option_filter}
use Rattle.net_names.specs.Texts.{asn_of, class_named, fields}
use Rattle.net_names.specs.Trials.{◌>>=◌}
use Rattle.scenario_text.specs.FileLines.{GivesOrFails}
use Rattle.scenario_text.specs.Forms.{for_of, form, pair}
use Rattle.stability_laws.specs.declared.entry.Entry.{Entry}
use Rattle.activations.specs.declared.acts.Acts.{Acts}
use Rattle.activations.specs.declared.reading.ActsError.{ActsError}
use Rattle.activations.specs.declared.reading.ActsError.TheVariants.{Memory, Unreadable, Twice, TooMany, NoFor}
use Rattle.activations.specs.declared.reading.TheConstants.{MOST_ACTIVATIONS}

-- a reading fails in this way; want of memory says nothing of it
abbrev pub Fails : {X : Type 0} → ActsError → Result X ActsError → Type 0
Fails Memory reading = Unit {0}
Fails e reading = reading ≡ Err e

-- a reading that fails as another one does fails in the same way
pub fails_on : (e : ActsError) (r s : Result Acts ActsError) → ((f : ActsError) → r ≡ Err f → s ≡ Err f) → Fails e r → Fails e s
fails_on Memory r s same fails = tt
fails_on e r s same fails = same e fails

-- the numbers that the words are; in place of a number the word `otc` may stand, with one number behind it, which is the last word (own format)
unfoldable pub numbers_in : List (List ℕ) → Option (List ℕ × Option ℕ)
numbers_in [] = Some ([], None)
numbers_in (w ∷ ws) = if bytes_eq w (codes "otc") then option_map (λ m. ([], Some m)) (asn_of (join_with_byte 32 ws))
    else option_and_then (λ n. option_map (λ x. (n ∷ x.0, x.1)) (numbers_in ws)) (asn_of w)

-- A CLASS N N .. or A CLASS N N .. otc M: A holds an entry of this class and the path N N .., which begins with A (own format)
unfoldable pub hold_of : List ℕ → Option (ℕ × Entry)
hold_of text = option_filter (λ x. starts_with nat_eq x.1.path (x.0 ∷ []))
    (option_map (λ x. (x.0, record { class = x.1.0; path = x.1.1.0; otc = x.1.1.1 }))
    (pair 32 asn_of (pair 32 class_named (λ t. numbers_in (fields 32 t))) text))

-- A A .. are activated in turn (own format)
unfoldable pub act_of : List ℕ → Option (List ℕ)
act_of t = option_map (λ x. x.0) (option_filter (λ x. not (is_some x.1)) (numbers_in (fields 32 t)))

-- with what A holds: before all activations, and of each AS once (own format)
abbrev pub with_hold : Acts → ℕ → ℕ × Entry → Result Acts ActsError
with_hold s n h = if nat_lt 0 (length s.list) then Err (Unreadable n)
    else (if is_some (map.get s.held h.0) then Err (Twice n)
    else Ok (record s { held = map.insert s.held h.0 h.1; named = s.named ++ (n, h.0) ∷ [] }))

-- with ASes that are activated: at most 1,000,000 in all (own format)
abbrev pub with_acts : Acts → ℕ → List ℕ → Result Acts ActsError
with_acts s n ases = if nat_lt MOST_ACTIVATIONS (length s.list + length ases) then Err (TooMany n)
    else Ok (record s { list = s.list ++ ases; named = s.named ++ each (λ a. (n, a)) ases })

-- with a line, `hold A CLASS N N ..` or `act A A ..`, behind what was said before (own format)
abbrev pub with_line : Acts → ℕ × List ℕ → Result Acts ActsError
with_line s l = unwrap_or (option_or (form "hold " hold_of (with_hold s l.0) l.1)
    (form "act " act_of (with_acts s l.0) l.1)) (Err (Unreadable l.0))

-- what the lines say, of which the first is `for R P` (own format)
unfoldable pub acts_by : List (ℕ × List ℕ) → Result Acts ActsError
acts_by [] = Err NoFor
acts_by (l ∷ ls) = ok_or (for_of l.1) (Unreadable l.0) >>= λ x. said_on with_line (record { for_line = l.0; round = x.0; prefix = x.1; held = map.empty; list = []; named = [] }) ls

-- what was returned is what the reading gives, unless memory ran out
abbrev pub Gives : {X : Type 0} → Result X ActsError → Result X ActsError → Type 0
Gives result reading = GivesOrFails Fails result reading
