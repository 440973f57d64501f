-- What the narrow policy answers.
use Rattle.std.specs.Prelude.{ℕ, Bool, true, false, nat_le}
use Rattle.std.specs.declared.cmp.Ordering.{Ordering}
use Rattle.std.specs.Ordering.{nat_cmp, ordering_then, is_lt}
use Rattle.net_names.specs.declared.routes.Class.{Class}
use Rattle.net_names.specs.declared.routes.Class.TheVariants as class
use Rattle.net_names.specs.declared.routes.Rel.{Rel}
use Rattle.net_names.specs.declared.routes.Rel.TheVariants.{Customer, Peer, Provider}
use Rattle.policy_laws.specs.declared.policy.View.{View}
use Rattle.policy_laws.specs.Policy.{Policy}

-- customers come before the others, which are alike (Gao and Rexford 2001, Guideline A)
abbrev pub class_place : Rel → ℕ
class_place Customer = 0
class_place Peer = 1
class_place Provider = 1

-- offers are compared by class, then by the length of the path, and then the higher neighbour comes first (RFC 4271, section 9.1.2)
abbrev pub narrow_cmp : View → View → Ordering
narrow_cmp x y = ordering_then (nat_cmp (class_place x.rel) (class_place y.rel)) (ordering_then (nat_cmp x.length y.length) (nat_cmp y.neighbour x.neighbour))

-- own routes are exported to every neighbour, customers' routes to customers and peers, peers' and providers' routes to customers
abbrev pub narrow_exports : Class → Rel → Bool
narrow_exports class.Origin to = true
narrow_exports class.Customer Customer = true
narrow_exports class.Customer Peer = true
narrow_exports class.Customer Provider = false
narrow_exports class.Peer Customer = true
narrow_exports class.Peer Peer = false
narrow_exports class.Peer Provider = false
narrow_exports class.Provider Customer = true
narrow_exports class.Provider Peer = false
narrow_exports class.Provider Provider = false

-- the narrow policy accepts paths of at most three numbers, reads no state, looks at no mark, and marks nothing
abbrev pub narrow_policy : Policy
narrow_policy = record {
  accepts = λ v. nat_le v.length 3;
  before = λ x y. is_lt (narrow_cmp x y);
  exports = λ held otc to. narrow_exports held to;
  reads_state = false;
  marks = false;
}
