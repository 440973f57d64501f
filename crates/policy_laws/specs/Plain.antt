-- The plain policy.
use Rattle.std.specs.Prelude.{◌≡◌, ◌≢◌, ℕ, false, IsTrue, Option, None, Some, List, [], ◌∷◌, ⊤}
use Rattle.std.specs.Ordering.{nat_cmp, is_lt}
use Rattle.std.specs.Cmp.Lexicographic.{slice_cmp}
use Rattle.net_names.specs.declared.routes.Class.{Class}
use Rattle.net_names.specs.declared.routes.Rel.{Rel}
use Rattle.net_names.specs.declared.routes.Rel.TheVariants.{Customer, Peer, Provider}
use Rattle.net_names.specs.declared.routes.State.{State}
use Rattle.policy_laws.specs.declared.policy.Stance.{Stance}
use Rattle.policy_laws.specs.declared.policy.Stance.TheVariants as stance
use Rattle.policy_laws.specs.declared.policy.View.{View}
use Rattle.policy_laws.specs.Policy.{Policy, is_own_or_customers}

-- what the plain policy compares offers by, one number after the other: whether a customer, a peer or a provider makes it; then the length of the path; then the neighbour's number (Gao and Rexford 2001, Guideline A; RFC 4271, section 9.1.2)
abbrev pub plain_key : View → List ℕ
plain_key v = elim v.rel [ Customer ↦ 0 | Peer ↦ 1 | Provider ↦ 2 ] ∷ v.length ∷ v.neighbour ∷ []

-- the policy is the plain one: it takes every offer; it puts customers before peers before providers, then the shorter path, then the lower neighbour; it hands every route to customers, and to peers and providers its own and its customers' routes only; it reads no state and sets no mark (Gao and Rexford 2001)
pub record IsPlain (p : Policy) : Type 0 where
  pub accepts : (v : View) → IsTrue (p.accepts v)
  pub before : (x y : View) → p.before x y ≡ is_lt (slice_cmp nat_cmp (plain_key x) (plain_key y))
  pub to_customers : (held : Class) (otc : Option ℕ) → IsTrue (p.exports held otc Customer)
  pub to_others : (held : Class) (otc : Option ℕ) (to : Rel) → to ≢ Customer → p.exports held otc to ≡ is_own_or_customers held
  pub unread : p.reads_state ≡ false
  pub unmarked : p.marks ≡ false

-- what the plain policy compares providers' offers by: the length of the path, then the neighbour's number (RFC 4271, section 9.1.2)
abbrev pub provider_key : View → List ℕ
provider_key v = v.length ∷ v.neighbour ∷ []

-- with providers' offers whose states pass the test the policy does what the plain one does: it takes them, puts the shorter path first, then the lower neighbour, and sets no mark
pub record TakesPlainly (p : Policy) (test : State → Type 0) : Type 0 where
  pub accepts : (v : View) → v.rel ≡ Provider → test v.state → IsTrue (p.accepts v)
  pub before : (x y : View) → x.rel ≡ Provider → y.rel ≡ Provider → test x.state → test y.state → p.before x y ≡ is_lt (slice_cmp nat_cmp (provider_key x) (provider_key y))
  pub unmarked : p.marks ≡ false

-- the policy takes no offer whose state passes the test
abbrev pub TakesNone : Policy → (State → Type 0) → Type 0
TakesNone p test = (v : View) → test v.state → p.accepts v ≡ false

-- the policy hands every route to customers, and sets no mark
pub record SendsPlainly (p : Policy) : Type 0 where
  pub to_customers : (held : Class) (otc : Option ℕ) → IsTrue (p.exports held otc Customer)
  pub unmarked : p.marks ≡ false

-- a state is this one, or any one if none is given
abbrev pub IsOf : Option State → State → Type 0
IsOf None t = ⊤
IsOf (Some s) t = t ≡ s

-- where all states are this one, or are any if none is given, the policy takes providers' offers plainly, takes no offer, or does neither
abbrev pub IsStance : Policy → Option State → Stance → Type 0
IsStance p all stance.Plain = TakesPlainly p (IsOf all)
IsStance p all stance.Nothing = TakesNone p (IsOf all)
IsStance p all stance.Other = (¬ TakesPlainly p (IsOf all)) × (¬ TakesNone p (IsOf all))
