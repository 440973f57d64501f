-- Links by the places of their ends.
use Rattle.std.specs.Prelude.{◌≡◌, ◌<◌, ◌+◌, ◌-◌, ◌++◌, ◌∷◌, [], ℕ, true, Option, Some, List, All, length, take, drop, slice_index}
use Rattle.net_names.specs.Numbers.{occurs}
use Rattle.net_names.specs.declared.routes.Rel.{Rel}
use Rattle.net_names.specs.declared.routes.Rel.TheVariants.{Customer, Peer, Provider}
use Rattle.routing_tree.specs.declared.around.Around.{Around}
use Rattle.routing_tree.specs.declared.links.PlaceLists.{PlaceLists}
use Rattle.routing_tree.specs.declared.links.PlacedLinks.{PlacedLinks}

-- how many lists there are
abbrev pub count_of : PlaceLists → ℕ
count_of l = length l.starts.items - 1

-- the list at a place
abbrev pub list_at : PlaceLists → ℕ → List ℕ
list_at l k = take (slice_index l.starts.items (k + 1) - slice_index l.starts.items k) (drop (slice_index l.starts.items k) l.items.items)

-- these are the places of all neighbours of an AS that are this to it, and of no others
pub record ArePlacesOf (relation : ℕ → ℕ → Option Rel) (ases : List ℕ) (a : ℕ) (r : Rel) (places : List ℕ) : Type 0 where
  pub each : All (λ j. (j < length ases) × (relation a (slice_index ases j) ≡ Some r)) places
  pub complete : (n : ℕ) → relation a n ≡ Some r → (j : ℕ) × (j < length ases) × (slice_index ases j ≡ n) × (occurs j places ≡ true)

-- of each AS of the list the links lead to the places of its customers, its peers and its providers
pub record AreLinksOf (relation : ℕ → ℕ → Option Rel) (ases : List ℕ) (l : PlacedLinks) : Type 0 where
  pub customer_count : count_of l.customers ≡ length ases
  pub peer_count : count_of l.peers ≡ length ases
  pub provider_count : count_of l.providers ≡ length ases
  pub customers : (k : ℕ) → k < length ases → ArePlacesOf relation ases (slice_index ases k) Customer (list_at l.customers k)
  pub peers : (k : ℕ) → k < length ases → ArePlacesOf relation ases (slice_index ases k) Peer (list_at l.peers k)
  pub providers : (k : ℕ) → k < length ases → ArePlacesOf relation ases (slice_index ases k) Provider (list_at l.providers k)

-- the links have a list of each kind for each of so many places, and lead to such places
pub record HasLists (n : ℕ) (l : PlacedLinks) : Type 0 where
  pub customer_count : count_of l.customers ≡ n
  pub peer_count : count_of l.peers ≡ n
  pub provider_count : count_of l.providers ≡ n
  pub customers : All (λ j. j < n) l.customers.items.items
  pub peers : All (λ j. j < n) l.peers.items.items
  pub providers : All (λ j. j < n) l.providers.items.items

-- the places of those neighbours that are this to the AS
abbrev pub places_of : Around → Rel → List ℕ
places_of around Customer = around.customers.items
places_of around Peer = around.peers.items
places_of around Provider = around.providers.items

-- a place stands behind those of its kind, and the others stay
abbrev pub IsPut : Rel → ℕ → Around → Around → Type 0
IsPut Customer place old new = (new.customers.items ≡ old.customers.items ++ place ∷ []) × (new.peers.items ≡ old.peers.items) × (new.providers.items ≡ old.providers.items)
IsPut Peer place old new = (new.customers.items ≡ old.customers.items) × (new.peers.items ≡ old.peers.items ++ place ∷ []) × (new.providers.items ≡ old.providers.items)
IsPut Provider place old new = (new.customers.items ≡ old.customers.items) × (new.peers.items ≡ old.peers.items) × (new.providers.items ≡ old.providers.items ++ place ∷ [])

-- one more list stands behind the others, which stay
pub record HasOneMore (old new : PlaceLists) (list : List ℕ) : Type 0 where
  pub count : count_of new ≡ count_of old + 1
  pub others : (k : ℕ) → k < count_of old → list_at new k ≡ list_at old k
  pub this : list_at new (count_of old) ≡ list
  pub items : new.items.items ≡ old.items.items ++ list

-- of so many ASes of the list, the first ones, the lists have the places of those neighbours that are this to the AS
pub record AreListsOf (relation : ℕ → ℕ → Option Rel) (ases : List ℕ) (r : Rel) (n : ℕ) (l : PlaceLists) : Type 0 where
  pub count : count_of l ≡ n
  pub each : (k : ℕ) → k < n → ArePlacesOf relation ases (slice_index ases k) r (list_at l k)
  pub inside : All (λ j. j < length ases) l.items.items
