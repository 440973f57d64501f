-- Finite sets of payloads.
use Rattle.std.specs.Prelude.{◌≡◌, ℕ, Bool, true, List, map}
use Rattle.std.specs.Coded.{Coded}
use Rattle.std.specs.FinMap as fin
use Rattle.std.specs.FinSet as set
use Rattle.net_names.specs.Payloads.{VrpValue, IsVrp, vrp_cmp, vrp_code}

-- a finite set of payloads: a finite map with nothing at each
abbrev pub Payloads : Type 0
Payloads = fin.FinMap vrp_cmp (Unit {0})

-- how such a set is stored as a value
abbrev pub payloads_code : Coded Payloads
payloads_code = set.code vrp_code

-- the empty set
abbrev pub no_payloads : Payloads
no_payloads = fin.empty

-- whether the payload is in the set
abbrev pub has : Payloads → VrpValue → Bool
has s v = fin.contains_key s v

-- the set with one payload more, if it is new
abbrev pub added : Payloads → VrpValue → Payloads
added s v = fin.insert s v tt

-- the set without one payload
abbrev pub taken : Payloads → VrpValue → Payloads
taken s v = fin.remove s v

-- the payloads of the set, in rising order (net_names, vrp_cmp)
abbrev pub items : Payloads → List VrpValue
items s = fin.keys s

-- how many payloads the set has
abbrev pub count : Payloads → ℕ
count s = fin.len s

-- the set of the payloads of a list
abbrev pub set_of : List VrpValue → Payloads
set_of vs = fin.from_entries (map (λ v. (v, tt)) vs)

-- the payload has a prefix, and its maximum length is one of it (net_names, Payloads)
abbrev pub IsSound : VrpValue → Type 0
IsSound v = IsVrp v.prefix.family v.prefix.addr v.prefix.len v.max

-- each payload of the set is such a one
abbrev pub AreSound : Payloads → Type 0
AreSound s = (v : VrpValue) → has s v ≡ true → IsSound v
