-- The states over a set, with those of some prefixes and origins found ahead.
use Rattle.std.specs.Prelude.{ℕ, List, [], ◌∷◌, ◌++◌, refl}
use Rattle.std.specs.Coded.{Coded, code_by, coded×, coded_ℕ, coded_list}
use Rattle.net_names.specs.Prefixes.{PrefixValue, prefix_code}
use Rattle.roa_table.specs.Sets.{Payloads, payloads_code}

-- a set of payloads, and the prefixes and origins whose states were found ahead, in the order in which they were
pub record Known : Type 0 where
  pub payloads : Payloads
  pub routes : List (PrefixValue × ℕ)

-- stored as the pair of its fields
abbrev pub known_code : Coded Known
known_code =
    code_by (Payloads × List (PrefixValue × ℕ)) (coded× payloads_code (coded_list (coded× prefix_code coded_ℕ)))
    (λ k. (k.payloads, k.routes)) (λ c. record { payloads = c.0; routes = c.1 }) (λ _. refl)

-- the same set, with one prefix and origin more at the end
abbrev pub with_route : Known → PrefixValue → ℕ → Known
with_route k p origin = record k { routes = k.routes ++ (p, origin) ∷ [] }
