-- The ASes of a world in rising number: each stands there once, and nobody else.
use Rattle.std.proofs.Common.{◌≡◌, ℕ, List}
use Rattle.net_names.specs.Numbers.{occurs, IsDistinct}
use Rattle.net_names.proofs.Marks.{in_order, distinct-in_order, occurs-in_order}
use Rattle.as_graph.specs.Topology.{Topology, ases, has}

-- the ASes of the world in rising number
abbrev pub asns_of : Topology → List ℕ
asns_of w = in_order (ases w)

pub listed_once : (w : Topology) → IsDistinct (asns_of w)
listed_once w = distinct-in_order (ases w)

pub listed_are : (w : Topology) (a : ℕ) → occurs a (asns_of w) ≡ has w a
listed_are w a = occurs-in_order (ases w) a
