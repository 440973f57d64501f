-- What an AS chooses among the offers of a part, and the entry that a choice names.
use Rattle.std.specs.Prelude.{◌≡◌, ℕ, Bool, true, false, Option, None, Some, option_map}
use Rattle.net_names.specs.declared.routes.State.{State}
use Rattle.net_names.specs.declared.routes.State.TheVariants.{NotFound}
use Rattle.net_names.specs.declared.routes.Rel.{Rel}
use Rattle.net_names.specs.declared.routes.Rel.TheVariants.{Customer, Peer, Provider}
use Rattle.policy_laws.specs.declared.policy.View.{View}
use Rattle.policy_laws.specs.Policy.{Policy}
use Rattle.stability_laws.specs.declared.entry.Entry.{Entry}
use Rattle.stability_laws.specs.declared.entry.Seed.{Seed}
use Rattle.stability_laws.specs.Entries.{seed_entry}
use Rattle.stability_laws.specs.Offers.{Setting, Offer, offer, passed_on}
use Rattle.stability_laws.specs.Stable.{IsBest}
use Rattle.stability_laws.specs.Laws.{customer_offer}
use Rattle.stability_laws.specs.Steps.{IsStep}
use Rattle.route_choice.specs.declared.held.Held.{Held}
use Rattle.route_choice.specs.declared.choice.Part.{Part}
use Rattle.route_choice.specs.declared.choice.Part.TheVariants.{Up, Whole}
use Rattle.route_choice.specs.declared.choice.Choice.{Choice}
use Rattle.route_choice.specs.declared.choice.Choice.TheVariants as choice

-- the part looks at offers of what is this to the AS
abbrev pub is_looked_at : Part → Rel → Bool
is_looked_at Up Customer = true
is_looked_at Up Peer = false
is_looked_at Up Provider = false
is_looked_at Whole r = true

-- the offers that the part looks at
abbrev pub offers_of : Part → Setting → (ℕ → Option Entry) → ℕ → ℕ → Option Offer
offers_of Up w f a n = customer_offer w f n a
offers_of Whole w f a n = offer w f n a

-- the seed, or else the best of the offers, or nothing where there is none
abbrev pub IsChoice : Policy → Option Seed → (ℕ → Option Offer) → Choice → Type 0
IsChoice p seed offers choice.Nothing = (seed ≡ None) × ((n : ℕ) → offers n ≡ None)
IsChoice p seed offers choice.Seed = (s : Seed) × (seed ≡ Some s)
IsChoice p seed offers (choice.Via n r) = (seed ≡ None) × ((o : Offer) × IsBest p offers n o × (o.view.rel ≡ r))

-- the view's neighbour holds this
abbrev pub IsGiven : (ℕ → Option Held) → Option View → Option Held → Type 0
IsGiven f None given = Unit {0}
IsGiven f (Some v) given = given ≡ f v.neighbour

-- the neighbour whose offer is chosen holds this
abbrev pub IsChosenGiven : (ℕ → Option Held) → Choice → Option Held → Type 0
IsChosenGiven f choice.Nothing given = Unit {0}
IsChosenGiven f choice.Seed given = Unit {0}
IsChosenGiven f (choice.Via n r) given = given ≡ f n

-- the entry that a choice names where the ASes hold f: the seed's, or the neighbour's as it is passed on
abbrev pub named_by : (ℕ → Policy) → Option Seed → (ℕ → Option Entry) → ℕ → Choice → Option Entry
named_by policy seed f a choice.Nothing = None
named_by policy seed f a choice.Seed = option_map seed_entry seed
named_by policy seed f a (choice.Via n r) = option_map (passed_on (policy n).marks (policy a).marks n a r) (f n)

-- from f to g the AS a took the seed, the best offer of the part, or nothing
abbrev pub IsStepOf : Part → Setting → (ℕ → Option Seed) → (ℕ → Option Entry) → ℕ → (ℕ → Option Entry) → Type 0
IsStepOf part w seeds f a g = IsStep (w.policy a) (seeds a) (λ n. offers_of part w f a n) f a g

-- The states as a policy sees them: where it does not read them, all are NotFound.
abbrev pub state_seen : Bool → (ℕ → State) → ℕ → State
state_seen true state = state
state_seen false state = λ origin. NotFound
