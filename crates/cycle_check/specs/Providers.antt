-- The lists of the providers of a world's ASes, by place.
use Rattle.std.specs.Prelude.{◌≡◌, ◌↔◌, ℕ, true, ◌<◌, ◌≤◌, ◌^◌, ◌+◌, Option, Some, List, [], ◌∷◌, ◌++◌, length, slice_index}
use Rattle.std.specs.List.Sorted.{IsStrictlyIncreasing}
use Rattle.net_names.specs.Numbers.{occurs}
use Rattle.net_names.specs.declared.routes.Rel.{Rel}
use Rattle.net_names.specs.declared.routes.Rel.TheVariants.{Customer, Peer, Provider}
use Rattle.as_graph.specs.declared.neighbour.Neighbour.{Neighbour}
use Rattle.as_graph.specs.Topology.{Topology, has}
use Rattle.cycle_check.specs.Rows.{count_of, row}
use Rattle.cycle_check.specs.Places.{place_in}

-- just the ASes of the world, in rising number
pub record AreAses (g : Topology) (ases : List ℕ) : Type 0 where
  pub listed : (a : ℕ) → occurs a ases ≡ has g a
  pub rising : IsStrictlyIncreasing ases

-- the place of a neighbour in front of others, where it is a provider
abbrev pub put_provider : Rel → ℕ → List ℕ → List ℕ
put_provider Customer p ps = ps
put_provider Peer p ps = ps
put_provider Provider p ps = p ∷ ps

-- the places of the providers among some neighbours
abbrev pub provider_places : List ℕ → List Neighbour → List ℕ
provider_places ases [] = []
provider_places ases (n ∷ ns) = put_provider n.rel (place_in ases n.asn) (provider_places ases ns)

-- these are the places of the providers of the AS at a place
pub record AreProvidersAt (w : ℕ → ℕ → Option Rel) (ases : List ℕ) (q : ℕ) (ps : List ℕ) : Type 0 where
  pub within : (k : ℕ) → k < length ps → slice_index ps k < length ases
  pub are : (p : ℕ) → p < length ases → (w (slice_index ases p) (slice_index ases q) ≡ Some Customer) ↔ (occurs p ps ≡ true)

-- the places of the providers of the AS at a place stand behind what stood there
abbrev pub IsRowPut : (ℕ → ℕ → Option Rel) → List ℕ → ℕ → List ℕ → List ℕ → Type 0
IsRowPut w ases q old new = (ps : List ℕ) × (new ≡ old ++ ps) × AreProvidersAt w ases q ps

-- at the place of each AS stand the places of its providers
pub record AreProviderRows (w : ℕ → ℕ → Option Rel) (ases starts items : List ℕ) : Type 0 where
  pub places : count_of starts ≡ length ases
  pub rising : IsStrictlyIncreasing ases
  pub above : (a b : ℕ) → w a b ≡ Some Customer → occurs a ases ≡ true
  pub below : (a b : ℕ) → w a b ≡ Some Customer → occurs b ases ≡ true
  pub rows : (p q : ℕ) → p < length ases → q < length ases → (w (slice_index ases p) (slice_index ases q) ≡ Some Customer) ↔ (occurs p (row starts items q) ≡ true)

-- the lists of the first ASes stand one after the other in the region
pub record AreFilled (w : ℕ → ℕ → Option Rel) (ases starts items : List ℕ) (n : ℕ) : Type 0 where
  pub count : length starts ≡ n + 1
  pub first : slice_index starts 0 ≡ 0
  pub rising : (i j : ℕ) → i ≤ j → j < length starts → slice_index starts i ≤ slice_index starts j
  pub last : slice_index starts n ≡ length items
  pub small : length items < 2 ^ 32
  pub within : (k : ℕ) → k < length items → slice_index items k < length ases
  pub rows : (q : ℕ) → q < n → AreProvidersAt w ases q (row starts items q)

-- the rank of an AS by the ranks of the places, 0 for an AS that has none
abbrev pub rank_by : List ℕ → List ℕ → ℕ → ℕ
rank_by ases ranks a = slice_index ranks (place_in ases a)
