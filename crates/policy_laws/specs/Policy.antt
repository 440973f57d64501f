-- What a policy answers, as functions of plain data, and the laws that each policy meets.
use Rattle.std.specs.Prelude.{◌≡◌, ◌≢◌, ◌⊎◌, ℕ, Bool, true, false, IsTrue, Option}
use Rattle.net_names.specs.declared.routes.Class.{Class}
use Rattle.net_names.specs.declared.routes.Class.TheVariants as class
use Rattle.net_names.specs.declared.routes.Rel.{Rel}
use Rattle.net_names.specs.declared.routes.Rel.TheVariants.{Customer}
use Rattle.net_names.specs.declared.routes.State.{State}
use Rattle.policy_laws.specs.declared.policy.View.{View}

-- a policy says which offers it accepts, which of two it puts before the other, which held routes it exports to whom, whether it reads the validation state, and whether it marks routes (Gao and Rexford 2001; RFC 6811, section 3; RFC 9234, section 5)
pub record Policy : Type 0 where
  pub accepts : View → Bool
  pub before : View → View → Bool
  pub exports : Class → Option ℕ → Rel → Bool
  pub reads_state : Bool
  pub marks : Bool

-- the route is an own one, or a customer's: no peer and no provider gave it
abbrev pub is_own_or_customers : Class → Bool
is_own_or_customers held = elim held [ class.Peer ↦ false | class.Provider ↦ false | _ ↦ true ]

-- the view with another validation state
abbrev pub with_state : View → State → View
with_state x s = record x { state = s }

-- no view is before itself, a view before a second one is before all that the second is before, and of two views of different neighbours one is before the other (RFC 4271, section 9.1.2.2: the choice is always settled)
pub record RanksOffers (p : Policy) : Type 0 where
  pub irreflexive : (x : View) → p.before x x ≡ false
  pub transitive : (x y z : View) → IsTrue (p.before x y) → IsTrue (p.before y z) → IsTrue (p.before x z)
  pub total : (x y : View) → x.neighbour ≢ y.neighbour → IsTrue (p.before x y) ⊎ IsTrue (p.before y x)

-- a customer's offer is before every peer's and every provider's (Gao and Rexford 2001, Guideline A)
abbrev pub PrefersCustomers : Policy → Type 0
PrefersCustomers p = (x y : View) → x.rel ≡ Customer → y.rel ≢ Customer → IsTrue (p.before x y)

-- what a peer or a provider gave is exported to customers only (Gao and Rexford 2001; Gao 2001, valley-free paths)
pub record ExportsDownOnly (p : Policy) : Type 0 where
  pub from_peer : (otc : Option ℕ) (to : Rel) → IsTrue (p.exports class.Peer otc to) → to ≡ Customer
  pub from_provider : (otc : Option ℕ) (to : Rel) → IsTrue (p.exports class.Provider otc to) → to ≡ Customer

-- a policy that does not read the validation state answers alike whatever the state is
pub record IgnoresState (p : Policy) : Type 0 where
  pub accepts : p.reads_state ≡ false → (x : View) (s : State) → p.accepts (with_state x s) ≡ p.accepts x
  pub before : p.reads_state ≡ false → (x y : View) (s t : State) → p.before (with_state x s) (with_state y t) ≡ p.before x y
