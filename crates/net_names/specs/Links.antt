-- Links between ASes as a finite map (RFC 9234, section 4, has the relations).
use Rattle.std.specs.Prelude.{ℕ, nat_lt, if◌then◌else◌, Option, None, option_map}
use Rattle.std.specs.Coded.{Coded, coded×, coded_ℕ}
use Rattle.std.specs.declared.cmp.Ordering.{Ordering}
use Rattle.std.specs.Ordering.{nat_cmp, ordering_then}
use Rattle.std.specs.FinMap as map
use Rattle.std.specs.FinMap.{insert}
use Rattle.net_names.specs.declared.routes.Rel.{Rel}
use Rattle.net_names.specs.declared.routes.Rel.TheVariants.{Customer, Peer, Provider}
use Rattle.net_names.specs.contracts.routes.Rel as rel

-- pairs of numbers are ordered by the first, and where it is the same by the second
abbrev pub pair_cmp : ℕ × ℕ → ℕ × ℕ → Ordering
pair_cmp a b = ordering_then (nat_cmp a.0 b.0) (nat_cmp a.1 b.1)

-- at the pair of a lower and a higher AS stands what the higher one is to the lower one
abbrev pub LinkMap : Type 0
LinkMap = map.FinMap pair_cmp Rel

-- how such a map is stored as a value
abbrev pub link_map_code : Coded LinkMap
link_map_code = map.code (coded× coded_ℕ coded_ℕ) rel.the_row.coded

-- what a is to b, where b is this to a: a customer's other side is a provider (RFC 9234, section 4)
abbrev pub converse : Rel → Rel
converse rel = elim rel [ Customer ↦ Provider | Peer ↦ Peer | Provider ↦ Customer ]

-- what b is to a, where they have a link; an AS has none with itself
abbrev pub between : LinkMap → ℕ → ℕ → Option Rel
between links a b = if nat_lt a b then map.get links (a, b) else (if nat_lt b a then option_map converse (map.get links (b, a)) else None)

-- b is this to a, in place of what it was, and each other pair stays
abbrev pub with_relation : LinkMap → ℕ → ℕ → Rel → LinkMap
with_relation m a b r = if nat_lt a b then insert m (a, b) r else insert m (b, a) (converse r)
