-- Each kind meets the laws of every policy; the laws of the implementation cite these lemmas.
use denote.Enum.Bare.{sameb}
use Rattle.std.specs.Prelude.{◌≡◌, ◌≢◌, ◌↔◌, ◌||◌, ◌&&◌, ℕ, Bool, true, false, IsTrue, None, List, slice_index, refl}
use Rattle.std.proofs.Common.{sym, ap, subst, ◌∙◌}
use Rattle.std.specs.Ordering.{nat_cmp, is_eq, is_lt}
use Rattle.std.specs.Cmp.Lexicographic.{slice_cmp, on_texts, texts_ties, same_text}
use Rattle.net_names.specs.contracts.routes.Rel.{the_type}
use Rattle.net_names.specs.declared.routes.Rel.{Rel}
use Rattle.net_names.specs.declared.routes.Rel.TheVariants.{Customer, Peer, Provider}
use Rattle.net_names.specs.declared.routes.State.TheVariants.{NotFound}
use Rattle.policy_laws.specs.declared.policy.View.{View}
use Rattle.policy_laws.specs.Policy.{is_own_or_customers, RanksOffers, PrefersCustomers, ExportsDownOnly, IgnoresState}
use Rattle.policy_laws.specs.Plain.{IsPlain, plain_key}
use Rattle.policy_laws.specs.Ranking.{ranks_by}
use Rattle.policy_kinds.specs.contracts.kind.Kind.{the_type as kind_type}
use Rattle.policy_kinds.specs.declared.kind.Kind.{Kind}
use Rattle.policy_kinds.specs.declared.kind.Kind.TheVariants.{Plain, DropInvalid, PreferValid, ProviderFirst, Otc, DropInvalidOtc}
use Rattle.policy_kinds.specs.Kinds.{kind_row, offer_key, kind_policy}

pub kind_ranks_offers : (k : Kind) → RanksOffers (kind_policy k)
kind_ranks_offers k = let key : View → List ℕ = offer_key (kind_row k).1 in ranks_by (kind_policy k) (λ x y. slice_cmp nat_cmp (key x) (key y)) (λ x y. refl) (on_texts key)
    (λ x y e. ap (λ ks. slice_index ks 3) (same_text (key x) (key y) (sym (texts_ties (key x) (key y) ∙ ap is_eq e))))

-- in each row peers and providers come after customers
first_lower : (k : Kind) (x y : View) (b : Rel) → b ≢ Customer → IsTrue ((kind_policy k).before (record x { rel = Customer }) (record y { rel = b }))
first_lower k x y Customer n = absurd (n refl)
first_lower Plain x y Peer n = refl
first_lower Plain x y Provider n = refl
first_lower DropInvalid x y Peer n = refl
first_lower DropInvalid x y Provider n = refl
first_lower PreferValid x y Peer n = refl
first_lower PreferValid x y Provider n = refl
first_lower ProviderFirst x y Peer n = refl
first_lower ProviderFirst x y Provider n = refl
first_lower Otc x y Peer n = refl
first_lower Otc x y Provider n = refl
first_lower DropInvalidOtc x y Peer n = refl
first_lower DropInvalidOtc x y Provider n = refl

pub kind_prefers_customers : (k : Kind) → PrefersCustomers (kind_policy k)
kind_prefers_customers k x y e n = subst (λ a. IsTrue ((kind_policy k).before (record x { rel = a }) y)) (sym e) (first_lower k x y y.rel n)

to_customer : (to : Rel) → (sameb the_type to Customer || false) ≡ true → to ≡ Customer
to_customer Customer h = refl
to_customer Peer h = let e : false ≡ true = h in cc
to_customer Provider h = let e : false ≡ true = h in cc

pub kind_exports_down_only : (k : Kind) → ExportsDownOnly (kind_policy k)
kind_exports_down_only k = record {
  from_peer = λ otc to h. to_customer to h;
  from_provider = λ otc to h. to_customer to h;
}

pub kind_ignores_state : (k : Kind) → IgnoresState (kind_policy k)
kind_ignores_state Plain = record { accepts = λ unread x s. refl; before = λ unread x y s t. refl }
kind_ignores_state DropInvalid = record { accepts = λ unread x s. (let e : true ≡ false = unread in cc); before = λ unread x y s t. refl }
kind_ignores_state PreferValid = record { accepts = λ unread x s. refl; before = λ unread x y s t. (let e : true ≡ false = unread in cc) }
kind_ignores_state ProviderFirst = record { accepts = λ unread x s. refl; before = λ unread x y s t. refl }
kind_ignores_state Otc = record { accepts = λ unread x s. refl; before = λ unread x y s t. refl }
kind_ignores_state DropInvalidOtc = record { accepts = λ unread x s. (let e : true ≡ false = unread in cc); before = λ unread x y s t. refl }

plain_orders : (x y : View) (a b : Rel) → (kind_policy Plain).before (record x { rel = a }) (record y { rel = b }) ≡ is_lt (slice_cmp nat_cmp (plain_key (record x { rel = a })) (plain_key (record y { rel = b })))
plain_orders x y Customer Customer = refl
plain_orders x y Customer Peer = refl
plain_orders x y Customer Provider = refl
plain_orders x y Peer Customer = refl
plain_orders x y Peer Peer = refl
plain_orders x y Peer Provider = refl
plain_orders x y Provider Customer = refl
plain_orders x y Provider Peer = refl
plain_orders x y Provider Provider = refl

to_others : (to : Rel) (own : Bool) → to ≢ Customer → (sameb the_type to Customer || own && true) ≡ own
to_others Customer own n = absurd (n refl)
to_others Peer true n = refl
to_others Peer false n = refl
to_others Provider true n = refl
to_others Provider false n = refl

plain_is_plain : IsPlain (kind_policy Plain)
plain_is_plain = record {
  accepts = λ v. refl;
  before = λ x y. plain_orders x y x.rel y.rel;
  to_customers = λ held otc. refl;
  to_others = λ held otc to n. to_others to (is_own_or_customers held) n;
  unread = refl;
  unmarked = refl;
}

-- an offer of a neighbour that is this
abbrev offer_of : Rel → View
offer_of r = record { rel = r; neighbour = 0; length = 0; state = NotFound; otc = None }

-- the plain kind has the plain policy, and no other kind has it
pub plain_alone : (k : Kind) → IsTrue (sameb kind_type k Plain) ↔ IsPlain (kind_policy k)
plain_alone Plain = ((λ e. plain_is_plain), (λ p. refl))
plain_alone DropInvalid = ((λ e. (let f : false ≡ true = e in cc)), (λ p. let e : true ≡ false = p.unread in cc))
plain_alone PreferValid = ((λ e. (let f : false ≡ true = e in cc)), (λ p. let e : true ≡ false = p.unread in cc))
plain_alone ProviderFirst = ((λ e. (let f : false ≡ true = e in cc)), (λ p. let e : true ≡ false = p.before (offer_of Provider) (offer_of Peer) in cc))
plain_alone Otc = ((λ e. (let f : false ≡ true = e in cc)), (λ p. let e : true ≡ false = p.unmarked in cc))
plain_alone DropInvalidOtc = ((λ e. (let f : false ≡ true = e in cc)), (λ p. let e : true ≡ false = p.unmarked in cc))
