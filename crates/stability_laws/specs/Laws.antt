-- What the laws say.
use Rattle.std.specs.Prelude.{◌≡◌, ◌≢◌, ◌⊎◌, ◌↔◌, ℕ, suc, ◌<◌, ◌≤◌, IsTrue, true, false, Option, None, Some, List, length, slice_get}
use Rattle.net_names.specs.declared.routes.Class.TheVariants as class
use Rattle.net_names.specs.declared.routes.Rel.{Rel}
use Rattle.net_names.specs.declared.routes.Rel.TheVariants.{Customer, Peer, Provider}
use Rattle.net_names.specs.declared.routes.State.{State}
use Rattle.policy_laws.specs.Policy.{Policy}
use Rattle.as_graph.specs.Topology.{Topology, relation, has}
use Rattle.as_graph.specs.Hierarchy.{HasNoProviderCycle, IsChainFrom}
use Rattle.stability_laws.specs.declared.entry.Entry.{Entry}
use Rattle.stability_laws.specs.declared.entry.Seed.{Seed}
use Rattle.stability_laws.specs.Offers.{Setting, Offer, GivenBy, offer}
use Rattle.stability_laws.specs.Stable.{IsRight, IsRightGiven, IsStable}
use Rattle.stability_laws.specs.Book.{PolicyBook, policy_at}
use Rattle.stability_laws.specs.World.{setting}
use Rattle.stability_laws.specs.Plans.{Plan, IsSound, has_prefix, announces}
use Rattle.stability_laws.specs.Rounds.{AreRounds}
use Rattle.net_names.specs.Prefixes.{PrefixValue}

-- two settings and routings are alike around AS a: its links, its policy, what its neighbours
-- export and whether they mark, what they hold, and, where its policy reads them, the states
pub record SameAround (v w : Setting) (f g : ℕ → Option Entry) (a : ℕ) : Type 0 where
  pub links : (n : ℕ) → v.relation a n ≡ w.relation a n
  pub policy : v.policy a ≡ w.policy a
  pub exports : (n : ℕ) (r : Rel) → w.relation a n ≡ Some r → (v.policy n).exports ≡ (w.policy n).exports
  pub marks : (n : ℕ) (r : Rel) → w.relation a n ≡ Some r → (v.policy n).marks ≡ (w.policy n).marks
  pub states : ((w.policy a).reads_state ≡ false) ⊎ ((origin : ℕ) → v.state origin ≡ w.state origin)
  pub entries : (n : ℕ) (r : Rel) → w.relation a n ≡ Some r → f n ≡ g n

-- what is held is of class Peer or Provider, or there is nothing (Gao and Rexford 2001)
abbrev pub IsForCustomersOnly : Option Entry → Type 0
IsForCustomersOnly None = Unit {0}
IsForCustomersOnly (Some e) = (e.class ≡ class.Peer) ⊎ (e.class ≡ class.Provider)

-- the offer, where the giver is a customer
abbrev pub if_customer : Option Rel → Option Offer → Option Offer
if_customer None o = None
if_customer (Some Customer) o = o
if_customer (Some Peer) o = None
if_customer (Some Provider) o = None

-- the offer that n makes to a, where n is a customer of a
abbrev pub customer_offer : Setting → (ℕ → Option Entry) → ℕ → ℕ → Option Offer
customer_offer w f n a = if_customer (w.relation a n) (offer w f n a)

-- the offer that n makes to a follows from their link, what n exports and whether it marks, the
-- policy of a, the states, and the entry at n
abbrev pub OfferFollows : {P : Type 0} → (P → Policy) → Type 0
OfferFollows {P} meaning =
    (v w : Topology) (book other_book : PolicyBook P) (state : ℕ → State) (f g : ℕ → Option Entry) (n a : ℕ) →
    let p = meaning (policy_at book n) in let q = meaning (policy_at other_book n) in
    relation v a n ≡ relation w a n → p.exports ≡ q.exports → p.marks ≡ q.marks → meaning (policy_at book a) ≡ meaning (policy_at other_book a) → f n ≡ g n →
    offer (setting meaning v book state) f n a ≡ offer (setting meaning w other_book state) g n a

-- an offer comes over a link, and its view and its class name what the giver is
abbrev pub OfferNames : {P : Type 0} → (P → Policy) → Type 0
OfferNames {P} meaning =
    (w : Topology) (book : PolicyBook P) (state : ℕ → State) (f : ℕ → Option Entry) (n a : ℕ) (o : Offer) →
    offer (setting meaning w book state) f n a ≡ Some o → GivenBy (relation w a n) n o

-- whether a routing is right at an AS follows from its policy, its seed, its entry and the offers made to it
abbrev pub RightByOffers : {P : Type 0} → (P → Policy) → Type 0
RightByOffers {P} meaning =
    (v w : Topology) (book other_book : PolicyBook P) (state other_state : ℕ → State) (seeds other_seeds : ℕ → Option Seed) (f g : ℕ → Option Entry) (a : ℕ) →
    meaning (policy_at book a) ≡ meaning (policy_at other_book a) → seeds a ≡ other_seeds a → f a ≡ g a →
    ((n : ℕ) → offer (setting meaning v book state) f n a ≡ offer (setting meaning w other_book other_state) g n a) →
    IsRight (setting meaning v book state) seeds f a → IsRight (setting meaning w other_book other_state) other_seeds g a

-- whether a routing is right at an AS follows from what is around it
abbrev pub RightFollows : {P : Type 0} → (P → Policy) → Type 0
RightFollows {P} meaning =
    (v w : Topology) (book other_book : PolicyBook P) (state other_state : ℕ → State) (seeds other_seeds : ℕ → Option Seed) (f g : ℕ → Option Entry) (a : ℕ) →
    SameAround (setting meaning v book state) (setting meaning w other_book other_state) f g a → seeds a ≡ other_seeds a → f a ≡ g a →
    IsRight (setting meaning v book state) seeds f a → IsRight (setting meaning w other_book other_state) other_seeds g a

-- of an AS whose neighbours hold what they do, exactly one entry, or none, is right (RFC 4271, section 9.1.2)
abbrev pub OneAnswer : {P : Type 0} → (P → Policy) → Type 0
OneAnswer {P} meaning =
    (w : Topology) (book : PolicyBook P) (state : ℕ → State) (seeds : ℕ → Option Seed) (f : ℕ → Option Entry) (a : ℕ) →
    let right = λ (held : Option Entry). IsRightGiven (meaning (policy_at book a)) (seeds a) (λ n. offer (setting meaning w book state) f n a) held in
    (held : Option Entry) × right held × ((other : Option Entry) → right other → other ≡ held)

-- who holds nothing of class Origin or Customer makes no offer to a peer or a provider of its own
-- (Gao and Rexford 2001)
abbrev pub NothingUp : {P : Type 0} → (P → Policy) → Type 0
NothingUp {P} meaning =
    (w : Topology) (book : PolicyBook P) (state : ℕ → State) (f : ℕ → Option Entry) (n a : ℕ) (r : Rel) →
    relation w n a ≡ Some r → r ≢ Customer → IsForCustomersOnly (f n) → offer (setting meaning w book state) f n a ≡ None

-- an AS without a seed that a customer makes an offer is right exactly with the best of its
-- customers' offers (Gao and Rexford 2001, Guideline A)
abbrev pub CustomersDecide : {P : Type 0} → (P → Policy) → Type 0
CustomersDecide {P} meaning =
    (w : Topology) (book : PolicyBook P) (state : ℕ → State) (f : ℕ → Option Entry) (a customer : ℕ) (o : Offer) →
    let here = setting meaning w book state in
    customer_offer here f customer a ≡ Some o → (held : Option Entry) →
    IsRightGiven (here.policy a) None (λ n. offer here f n a) held ↔ IsRightGiven (here.policy a) None (λ n. customer_offer here f n a) held

-- two stable routings of one world without a provider cycle, for one prefix's states and the same
-- seeds, are equal (Gao and Rexford 2001)
abbrev pub OneStableRouting : {P : Type 0} → (P → Policy) → Type 0
OneStableRouting {P} meaning =
    (w : Topology) (book : PolicyBook P) (state : ℕ → State) (seeds : ℕ → Option Seed) (f g : ℕ → Option Entry) →
    HasNoProviderCycle (relation w) → IsStable (setting meaning w book state) seeds f → IsStable (setting meaning w book state) seeds g → (a : ℕ) → f a ≡ g a

-- two families of stable routings of one world without a provider cycle are equal
abbrev pub OneFamily : {P : Type 0} → (P → Policy) → Type 0
OneFamily {P} meaning =
    (w : Topology) (book : PolicyBook P) (state : PrefixValue → ℕ → State) (plan : Plan) (rounds : ℕ) (g h : ℕ → PrefixValue → ℕ → Option Entry) →
    let here = λ (prefix : PrefixValue). setting meaning w book (state prefix) in
    HasNoProviderCycle (relation w) → AreRounds here plan rounds g → AreRounds here plan rounds h →
    (before : ℕ) (prefix : PrefixValue) → before < rounds → IsTrue (has_prefix plan prefix) → (a : ℕ) → g (suc before) prefix a ≡ h (suc before) prefix a

-- in the rounds of a plan each path starts with its AS, and where the AS does not announce the
-- prefix the path goes on to an AS of the world (RFC 4271, section 5.1.2)
abbrev pub PathsGoOn : {P : Type 0} → (P → Policy) → Type 0
PathsGoOn {P} meaning =
    (w : Topology) (book : PolicyBook P) (state : PrefixValue → ℕ → State) (plan : Plan) (rounds : ℕ) (g : ℕ → PrefixValue → ℕ → Option Entry) →
    IsSound plan → AreRounds (λ prefix. setting meaning w book (state prefix)) plan rounds g →
    (before : ℕ) (prefix : PrefixValue) → before < rounds → IsTrue (has_prefix plan prefix) → (a : ℕ) (e : Entry) → g (suc before) prefix a ≡ Some e →
    (slice_get e.path 0 ≡ Some a) × (announces plan prefix a ≡ false → (b : ℕ) × (slice_get e.path 1 ≡ Some b) × (has w b ≡ true))

-- the height of a world is how many ASes its longest chain of providers and customers has (Gao and Rexford 2001)
pub record IsHeight (w : Topology) (h : ℕ) : Type 0 where
  pub most : (a : ℕ) (xs : List ℕ) → has w a ≡ true → IsChainFrom (relation w) a xs → length xs ≤ h
  pub reached : (h ≡ 0) ⊎ ((a : ℕ) × (xs : List ℕ) × (has w a ≡ true) × IsChainFrom (relation w) a xs × (length xs ≡ h))
