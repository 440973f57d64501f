-- A search that goes up from an AS to its providers and theirs, or down to its customers and theirs.
use Rattle.std.specs.Prelude.{◌≡◌, ◌≢◌, ◌⊎◌, ℕ, ◌<◌, ◌≤◌, Bool, true, false, ◌&&◌, ◌||◌, not, ◌==◌, if◌then◌else◌, nat_eq, is_some, Option, None, Some, List, [], ◌∷◌, ◌++◌, length, slice_index_or, slice_index}
use Rattle.std.specs.List.{IsDistinct as AreApart}
use Rattle.std.specs.Map.{lookup, keys_of}
use Rattle.net_names.specs.declared.routes.Rel.{Rel}
use Rattle.net_names.specs.declared.routes.Rel.TheVariants.{Customer, Peer, Provider}
use Rattle.net_names.specs.Numbers.{occurs, IsDistinct, last_or}
use Rattle.as_graph.specs.declared.neighbour.Neighbour.{Neighbour}
use Rattle.as_graph.specs.Hierarchy.{IsDescent}
use Rattle.as_graph.specs.Topology.{Topology}
use Rattle.cycle_check.specs.Cycles.{IsClosedBy, without_pair}
use Rattle.cycle_check.specs.declared.search.Search.{Search}

-- the relation as it is for a search up, and turned for one down
abbrev pub toward : Bool → (ℕ → ℕ → Option Rel) → ℕ → ℕ → Option Rel
toward true relation = relation
toward false relation = λ a b. relation b a

-- what ASes are to each other without a link of this pair, as a search up sees it, or one down
abbrev pub search_relation : Bool → Topology → ℕ → ℕ → ℕ → ℕ → Option Rel
search_relation up g provider customer = toward up (without_pair g provider customer)

-- a search up goes to providers, a search down to customers
abbrev pub is_wanted : Bool → Rel → Bool
is_wanted up Provider = up
is_wanted true Customer = false
is_wanted false Customer = true
is_wanted up Peer = false

-- a and b are these two ASes, in either order
abbrev pub is_pair : ℕ → ℕ → ℕ → ℕ → Bool
is_pair provider customer a b = (a == provider && b == customer) || (a == customer && b == provider)

-- the AS at a place of those that are reached
abbrev pub reached_at : List (ℕ × ℕ) → ℕ → ℕ
reached_at es i = (slice_index_or es i (0, 0)).0

-- the place of the AS from which it was reached
abbrev pub from_at : List (ℕ × ℕ) → ℕ → ℕ
from_at es i = (slice_index_or es i (0, 0)).1

-- the AS is reached
abbrev pub is_reached : List (ℕ × ℕ) → ℕ → Bool
is_reached es a = is_some (lookup (nat_eq a) es)

-- one more AS is reached, unless it was reached before
abbrev pub gains : List (ℕ × ℕ) → ℕ → ℕ → List (ℕ × ℕ)
gains es a from = if is_reached es a then es else es ++ (a, from) ∷ []

-- a neighbour is reached, if the search goes to it
abbrev pub gains_wanted : Bool → ℕ → ℕ → ℕ → ℕ → List (ℕ × ℕ) → Neighbour → List (ℕ × ℕ)
gains_wanted up provider customer a from es n = if is_wanted up n.rel && not (is_pair provider customer a n.asn) then gains es n.asn from else es

-- each AS but the first was reached from an earlier one
abbrev pub AreFromEarlier : List (ℕ × ℕ) → Type 0
AreFromEarlier es = (i : ℕ) → 0 < i → i < length es → from_at es i < i

-- the start comes first, and each other AS is a provider of an earlier one, from which it was reached
pub record AreReached (relation : ℕ → ℕ → Option Rel) (start : ℕ) (es : List (ℕ × ℕ)) : Type 0 where
  pub some : 0 < length es
  pub first : reached_at es 0 ≡ start
  pub earlier : AreFromEarlier es
  pub linked : (i : ℕ) → 0 < i → i < length es → relation (reached_at es i) (reached_at es (from_at es i)) ≡ Some Customer

-- more providers of an AS are reached, from its place, and those before have stayed
pub record GoesOn (relation : ℕ → ℕ → Option Rel) (a from : ℕ) (old new : List (ℕ × ℕ)) : Type 0 where
  pub longer : length old ≤ length new
  pub kept : (i : ℕ) → i < length old → slice_index_or new i (0, 0) ≡ slice_index_or old i (0, 0)
  pub stays : (y : ℕ) → is_reached old y ≡ true → is_reached new y ≡ true
  pub fresh : (i : ℕ) → length old ≤ i → i < length new → (from_at new i ≡ from) × (relation (reached_at new i) a ≡ Some Customer)

-- a search that has gone on from the first ASes, so many: all their providers are reached
pub record IsSearch (relation : ℕ → ℕ → Option Rel) (start : ℕ) (es : List (ℕ × ℕ)) (done : ℕ) : Type 0 where
  pub unique : AreApart nat_eq (keys_of es)
  pub reached : AreReached relation start es
  pub within : done ≤ length es
  pub all : (i : ℕ) → i < done → (y : ℕ) → relation y (reached_at es i) ≡ Some Customer → is_reached es y ≡ true

-- a search up starts at the provider, one down at the customer
abbrev pub start_of : Bool → ℕ → ℕ → ℕ
start_of up provider customer = if up then provider else customer

-- a search in the links without the pair's, which has not met the other AS of the pair
pub record IsRunning (g : Topology) (provider customer : ℕ) (up : Bool) (s : Search) : Type 0 where
  pub direction : s.up ≡ up
  pub search : IsSearch (search_relation up g provider customer) (start_of up provider customer) s.reached.entries s.done
  pub unmet : is_reached s.reached.entries (start_of up customer provider) ≡ false

-- a search has met the other AS of the pair, at a place
pub record HasMet (g : Topology) (provider customer : ℕ) (up : Bool) (es : List (ℕ × ℕ)) (at : ℕ) : Type 0 where
  pub reached : AreReached (search_relation up g provider customer) (start_of up provider customer) es
  pub inside : at < length es
  pub found : reached_at es at ≡ start_of up customer provider

-- a way from one AS to another: each is a provider of the next, and none comes twice
pub record IsWayTo (relation : ℕ → ℕ → Option Rel) (from to : ℕ) (xs : List ℕ) : Type 0 where
  pub descends : IsDescent relation xs
  pub distinct : IsDistinct xs
  pub first : slice_index xs 0 ≡ from
  pub last : last_or 0 xs ≡ to

-- a way from the AS at a place back to the start, by each relation by which the ASes are reached
abbrev pub IsWayBack : ℕ → List (ℕ × ℕ) → ℕ → List ℕ → Type 0
IsWayBack start es from xs = (relation : ℕ → ℕ → Option Rel) → AreReached relation start es → IsWayTo relation (reached_at es from) start xs

-- the list is the cycle that a link of the pair closes, where this is a way from the customer to the provider
abbrev pub ClosesWay : ℕ → ℕ → List ℕ → List ℕ → Type 0
ClosesWay provider customer way xs = (g : Topology) → provider ≢ customer → IsWayTo (without_pair g provider customer) customer provider way → IsClosedBy g provider customer xs

-- the list is that cycle, where a search has met the other AS of the pair, at a place
abbrev pub ClosesMet : ℕ → ℕ → Bool → List (ℕ × ℕ) → ℕ → List ℕ → Type 0
ClosesMet provider customer up es at xs = (g : Topology) → provider ≢ customer → HasMet g provider customer up es at → IsClosedBy g provider customer xs

-- the way back from a place is listed so far: it comes to the AS at another place next
pub record IsBack (relation : ℕ → ℕ → Option Rel) (es : List (ℕ × ℕ)) (from place : ℕ) (way : List ℕ) : Type 0 where
  pub descends : IsDescent relation way
  pub distinct : IsDistinct way
  pub next : (way ≡ []) ⊎ (relation (last_or 0 way) (reached_at es place) ≡ Some Customer)
  pub first : slice_index_or way 0 (reached_at es place) ≡ reached_at es from
  pub above : (x : ℕ) → occurs x way ≡ true → (i : ℕ) × (place < i) × (i < length es) × (reached_at es i ≡ x)
