-- Which ASes of which prefixes are touched.
use Rattle.std.specs.Prelude.{ℕ, Bool, List, map, filter}
use Rattle.std.specs.List.{list_any}
use Rattle.net_names.specs.Numbers.{occurs}
use Rattle.net_names.specs.Prefixes.{PrefixValue}
use Rattle.net_names.specs.contracts.prefixes.PrefixPartialEq.TheImpl as same_prefix
use Rattle.leak_round.specs.declared.touched.Touched.{Touched}

-- the touched ASes of a prefix
abbrev pub ases_in : List (PrefixValue × ℕ) → PrefixValue → List ℕ
ases_in pairs prefix = map (λ x. x.1) (filter (λ x. (same_prefix.ghosts).eq x.0 prefix) pairs)

-- the AS is touched for the prefix
abbrev pub touches : Touched → PrefixValue → ℕ → Bool
touches t prefix a = occurs a (ases_in t.pairs.items prefix)

-- some AS is touched for the prefix
abbrev pub is_touched : Touched → PrefixValue → Bool
is_touched t prefix = list_any (λ x. (same_prefix.ghosts).eq x.0 prefix) t.pairs.items
