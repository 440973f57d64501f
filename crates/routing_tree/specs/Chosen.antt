-- Which offer an AS at a place chooses by a tree.
use Rattle.std.specs.Prelude.{◌≡◌, ◌≢◌, ◌⊎◌, ◌<◌, ◌≤◌, ◌+◌, ◌==◌, ◌&&◌, if◌then◌else◌, ℕ, IsTrue, true, false, Option, Some, None, List, slice_get, slice_index, unwrap_or}
use Rattle.net_names.specs.Numbers.{occurs}
use Rattle.net_names.specs.declared.routes.Rel.{Rel}
use Rattle.net_names.specs.declared.routes.Rel.TheVariants.{Customer, Peer, Provider}
use Rattle.net_names.specs.declared.routes.State.{State}
use Rattle.net_names.specs.declared.routes.State.TheVariants.{NotFound}
use Rattle.policy_laws.specs.Plain.{IsOf}
use Rattle.policy_laws.specs.Policy.{Policy}
use Rattle.policy_laws.specs.declared.policy.View.{View}
use Rattle.routing_tree.specs.declared.choosing.Best.{Best}
use Rattle.routing_tree.specs.declared.choosing.Shortest.{Shortest}
use Rattle.routing_tree.specs.declared.links.PlacedLinks.{PlacedLinks}
use Rattle.routing_tree.specs.declared.tree.RoutingTree.{RoutingTree}
use Rattle.routing_tree.specs.Links.{list_at}

-- the state that the tree has at a place
abbrev pub state_at : RoutingTree → ℕ → State
state_at t j = unwrap_or (slice_get t.states.items j) NotFound

-- what an AS sees of what the AS at a place holds, to which that is this, if it holds something (RFC 4271, section 9.1.2)
abbrev pub seen_at : List ℕ → RoutingTree → Rel → ℕ → Option View
seen_at ases t r j = if slice_index t.lengths.items j == 0 then None
    else Some (record { rel = r; neighbour = slice_index ases j; length = slice_index t.lengths.items j + 1; state = state_at t j; otc = None })

-- upwards an AS looks at its customers (Gao and Rexford 2001)
abbrev pub LooksUpAt : PlacedLinks → ℕ → Rel → ℕ → Type 0
LooksUpAt l k r j = (r ≡ Customer) × (occurs j (list_at l.customers k) ≡ true)

-- downwards it looks at its peers that hold an own or a customer's route, and at its providers (Gao and Rexford 2001)
abbrev pub LooksDownAt : RoutingTree → PlacedLinks → ℕ → Rel → ℕ → Type 0
LooksDownAt t l k r j = ((r ≡ Peer) × (occurs j (list_at l.peers k) ≡ true) × (slice_get t.lows.items j ≡ Some true))
    ⊎ ((r ≡ Provider) × (occurs j (list_at l.providers k) ≡ true))

-- this is the view of an AS at which the chooser looks, which it accepts and puts before those of all others at which it looks and which it accepts (RFC 4271, section 9.1.2)
pub record IsFirst (p : Policy) (ases : List ℕ) (t : RoutingTree) (Looks : Rel → ℕ → Type 0) (b : Best) : Type 0 where
  pub looks : Looks b.view.rel b.place
  pub seen : seen_at ases t b.view.rel b.place ≡ Some b.view
  pub accepted : IsTrue (p.accepts b.view)
  pub first : (r : Rel) (j : ℕ) (v : View) → Looks r j → seen_at ases t r j ≡ Some v → IsTrue (p.accepts v) → j ≢ b.place → IsTrue (p.before b.view v)

-- the best of what is seen and accepted is chosen, and nothing only if none is
abbrev pub IsChosen : Policy → List ℕ → RoutingTree → (Rel → ℕ → Type 0) → Option Best → Type 0
IsChosen p ases t Looks None = (r : Rel) (j : ℕ) (v : View) → Looks r j → seen_at ases t r j ≡ Some v → p.accepts v ≡ false
IsChosen p ases t Looks (Some b) = IsFirst p ases t Looks b

-- all states of the tree where something is held are this one, or any if none is given
abbrev pub AreStatesOf : Option State → RoutingTree → Type 0
AreStatesOf all t = (j : ℕ) → 0 < slice_index t.lengths.items j → IsOf all (state_at t j)

-- the offer that the AS at a place makes, which is this to the one that chooses
abbrev pub best_from : List ℕ → RoutingTree → Rel → ℕ → Best
best_from ases t r j = record { view = record { rel = r; neighbour = slice_index ases j; length = slice_index t.lengths.items j + 1; state = state_at t j; otc = None }; place = j }

-- the best one that comes from a provider at a place
abbrev pub best_at : List ℕ → RoutingTree → ℕ → Best
best_at ases t j = best_from ases t Provider j

-- the better one of the best so far, if there is one, and of another one that the policy may accept (RFC 4271, section 9.1.2)
abbrev pub better_of : Policy → Option Best → Best → Option Best
better_of p None new = if p.accepts new.view then Some new else None
better_of p (Some old) new = if p.accepts new.view && p.before new.view old.view then Some new else Some old

-- the better one of the best so far and of the offer of the AS at a place, which is this to the one that chooses, if it holds something
abbrev pub weighed : Policy → List ℕ → RoutingTree → Option Best → Rel → ℕ → Option Best
weighed p ases t best r j = if slice_index t.lengths.items j == 0 then best else better_of p best (best_from ases t r j)

-- the path of the AS at a place comes before another one, by its length and then by the number of the AS (RFC 4271, section 9.1.2.2)
abbrev pub ComesFirst : List ℕ → RoutingTree → ℕ → Shortest → Type 0
ComesFirst ases t j s = (slice_index t.lengths.items j < s.length) ⊎ ((slice_index t.lengths.items j ≡ s.length) × (slice_index ases j < slice_index ases s.place))

-- the path of the AS at a place comes behind another one, or is that one
abbrev pub ComesLater : List ℕ → RoutingTree → ℕ → Shortest → Type 0
ComesLater ases t j s = (s.length < slice_index t.lengths.items j) ⊎ ((s.length ≡ slice_index t.lengths.items j) × (slice_index ases s.place ≤ slice_index ases j))

-- of the shortest path so far and that of the AS at a place this is the one that comes first
abbrev pub IsShorterOf : List ℕ → RoutingTree → ℕ → Shortest → Shortest → Type 0
IsShorterOf ases t j old new = ((new ≡ (record { length = slice_index t.lengths.items j; place = j })) × (0 < slice_index t.lengths.items j) × ComesFirst ases t j old)
    ⊎ ((new ≡ old) × ((slice_index t.lengths.items j ≡ 0) ⊎ ComesLater ases t j old))
