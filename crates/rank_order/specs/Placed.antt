-- ASes with places.
use Rattle.std.specs.Prelude.{ℕ, List, map}
use Rattle.rank_order.specs.declared.order.Placed.{Placed}

-- the ASes without their places
abbrev pub asns_of : List Placed → List ℕ
asns_of xs = map (λ x. x.asn) xs
