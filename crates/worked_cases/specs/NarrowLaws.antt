-- The narrow policy meets the laws of every policy; the laws of the implementation cite these lemmas.
use Rattle.std.specs.Prelude.{◌≡◌, ◌≢◌, ◌↔◌, true, false, IsTrue, Option, None, Some, ℕ, refl}
use Rattle.std.proofs.Common.{sym}
use Rattle.std.specs.declared.cmp.Ordering.{Ordering}
use Rattle.std.specs.declared.cmp.Ordering.TheVariants.{Equal}
use Rattle.std.specs.Ordering.{nat_cmp, ordering_then, is_lt}
use Rattle.std.proofs.lemmas.Cmp.{ranked, nat_cmp_total, on_total, then_total, back_total}
use Rattle.net_names.specs.declared.routes.Class.{Class}
use Rattle.net_names.specs.declared.routes.Class.TheVariants as class
use Rattle.net_names.specs.declared.routes.Rel.{Rel}
use Rattle.net_names.specs.declared.routes.Rel.TheVariants.{Customer, Peer, Provider}
use Rattle.net_names.specs.declared.routes.State.{State}
use Rattle.net_names.specs.declared.routes.State.TheVariants.{NotFound}
use Rattle.policy_laws.specs.declared.policy.View.{View}
use Rattle.policy_laws.specs.Policy.{RanksOffers, PrefersCustomers, ExportsDownOnly, IgnoresState}
use Rattle.policy_laws.specs.declared.policy.Stance.TheVariants.{Other}
use Rattle.policy_laws.specs.Plain.{IsPlain, IsStance, SendsPlainly}
use Rattle.policy_laws.specs.Ranking.{ranks_by, last_tied}
use Rattle.worked_cases.specs.Narrows.{class_place, narrow_cmp, narrow_policy}

pub narrow_ranks_offers : RanksOffers narrow_policy
narrow_ranks_offers = ranks_by narrow_policy narrow_cmp (λ x y. refl)
    (then_total (on_total (λ (x : View). class_place x.rel) nat_cmp_total) (then_total (on_total (λ (x : View). x.length) nat_cmp_total) (back_total (on_total (λ (x : View). x.neighbour) nat_cmp_total))))
    (λ x y e. sym (ranked y.neighbour x.neighbour Equal (sym (last_tied (nat_cmp x.length y.length) _ (last_tied (nat_cmp (class_place x.rel) (class_place y.rel)) _ e)))))

first_lower : (other : Rel) (r : Ordering) → other ≢ Customer → is_lt (ordering_then (nat_cmp (class_place Customer) (class_place other)) r) ≡ true
first_lower Customer r n = absurd (n refl)
first_lower Peer r n = refl
first_lower Provider r n = refl

pub narrow_prefers_customers : PrefersCustomers narrow_policy
narrow_prefers_customers x y e n = rw e (first_lower y.rel _ n)

pub narrow_exports_down_only : ExportsDownOnly narrow_policy
narrow_exports_down_only = record { from_peer = λ otc to h. from_peer to h; from_provider = λ otc to h. from_provider to h }
  where
    from_peer : (to : Rel) → narrow_policy.exports class.Peer None to ≡ true → to ≡ Customer
    from_peer Customer h = refl
    from_peer Peer h = let e : false ≡ true = h in cc
    from_peer Provider h = let e : false ≡ true = h in cc

    from_provider : (to : Rel) → narrow_policy.exports class.Provider None to ≡ true → to ≡ Customer
    from_provider Customer h = refl
    from_provider Peer h = let e : false ≡ true = h in cc
    from_provider Provider h = let e : false ≡ true = h in cc

pub narrow_ignores_state : IgnoresState narrow_policy
narrow_ignores_state = record { accepts = λ unread x s. refl; before = λ unread x y s t. refl }

-- the narrow policy refuses a path of four numbers, so it is not the plain one
pub narrow_is_not_plain : IsTrue false ↔ IsPlain narrow_policy
narrow_is_not_plain = ((λ e. (let f : false ≡ true = e in cc)), (λ p. let e : false ≡ true = p.accepts (record { rel = Customer; neighbour = 0; length = 4; state = NotFound; otc = None }) in cc))

-- a provider's offer of a path of this length
abbrev offer_of : ℕ → State → View
offer_of n s = record { rel = Provider; neighbour = 0; length = n; state = s; otc = None }

-- of each state the narrow policy refuses a path of four numbers and takes one of one number
pub narrow_stance : (all : Option State) → IsStance narrow_policy all Other
narrow_stance None = ((λ t. (let e : false ≡ true = t.accepts (offer_of 4 NotFound) refl tt in cc)), (λ n. (let e : true ≡ false = n (offer_of 1 NotFound) tt in cc)))
narrow_stance (Some s) = ((λ t. (let e : false ≡ true = t.accepts (offer_of 4 s) refl refl in cc)), (λ n. (let e : true ≡ false = n (offer_of 1 s) refl in cc)))

to_customers : (held : Class) → narrow_policy.exports held None Customer ≡ true
to_customers class.Origin = refl
to_customers class.Customer = refl
to_customers class.Peer = refl
to_customers class.Provider = refl

-- the narrow policy hands every route to customers, and sets no mark
pub narrow_sends : IsTrue true ↔ SendsPlainly narrow_policy
narrow_sends = ((λ e. record { to_customers = λ held otc. to_customers held; unmarked = refl }), (λ p. refl))
