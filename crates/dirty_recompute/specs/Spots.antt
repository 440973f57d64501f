-- ASes in an order by rank, each with a mark where it waits.
use Rattle.std.specs.Prelude.{◌≡◌, ◌≢◌, ◌+◌, ◌-◌, ◌≤◌, ◌<◌, ℕ, Bool, true, false, ◌&&◌, Some, List, slice_get}
use Rattle.std.specs.List.{list_any}
use Rattle.std.specs.declared.cmp.Ordering.{Ordering}
use Rattle.std.specs.Ordering.{nat_cmp, ordering_then}
use Rattle.std.specs.BTreeMap.{is_at}
use Rattle.dirty_recompute.specs.declared.spot.Spot.{Spot}
use Rattle.dirty_recompute.specs.declared.way.Way.{Way}
use Rattle.dirty_recompute.specs.declared.way.Way.TheVariants.{Up, Down}
use Rattle.dirty_recompute.specs.Ways.{IsNoLater}

-- the order of the pairs: by rank, and then by number
abbrev pub key_cmp : ℕ × ℕ → ℕ × ℕ → Ordering
key_cmp x y = ordering_then (nat_cmp x.0 y.0) (nat_cmp x.1 y.1)

-- the spot is that of the pair, and its AS waits
abbrev pub waits_at : (ℕ → ℕ) → ℕ × ℕ → Spot → Bool
waits_at rank k s = s.waits && is_at (key_cmp k) (rank s.asn, s.asn)

-- one of the spots has the pair
abbrev pub spots_have : (ℕ → ℕ) → List Spot → ℕ × ℕ → Bool
spots_have rank spots k = list_any (waits_at rank k) spots

-- each AS has one spot
abbrev pub AreApart : List Spot → Type 0
AreApart spots = (i j : ℕ) (s t : Spot) → slice_get spots i ≡ Some s → slice_get spots j ≡ Some t → s.asn ≡ t.asn → i ≡ j

-- the ranks rise
abbrev pub AreRising : List Spot → Type 0
AreRising spots = (i j : ℕ) (s t : Spot) → i ≤ j → slice_get spots i ≡ Some s → slice_get spots j ≡ Some t → s.rank ≤ t.rank

-- who waits stands at low or behind it, and before high
abbrev pub AreWithin : ℕ → ℕ → List Spot → Type 0
AreWithin low high spots = (i : ℕ) (s : Spot) → slice_get spots i ≡ Some s → s.waits ≡ true → (low ≤ i) × (i < high)

-- somebody waits at the place
abbrev pub IsWaiting : List Spot → ℕ → Type 0
IsWaiting spots i = (s : Spot) × (slice_get spots i ≡ Some s) × (s.waits ≡ true)

-- nobody waits
abbrev pub NoneWaits : List Spot → Type 0
NoneWaits spots = (i : ℕ) (s : Spot) → slice_get spots i ≡ Some s → s.waits ≡ false

-- the ranks are these
abbrev pub AreRanked : (ℕ → ℕ) → List Spot → Type 0
AreRanked rank spots = (i : ℕ) (s : Spot) → slice_get spots i ≡ Some s → s.rank ≡ rank s.asn

-- the spot at the place is that of a
abbrev pub IsSpotOf : List Spot → ℕ → ℕ → Type 0
IsSpotOf spots a i = (s : Spot) × (slice_get spots i ≡ Some s) × (s.asn ≡ a)

-- somebody waits at the place, and nobody at one that comes earlier on this way
abbrev pub IsNextPlace : Way → List Spot → ℕ → Type 0
IsNextPlace way spots i = IsWaiting spots i × ((j : ℕ) (t : Spot) → slice_get spots j ≡ Some t → t.waits ≡ true → IsNoLater way i j)

-- of the places from low on and before high, the one that comes after so many on this way
abbrev pub place_after : Way → ℕ → ℕ → ℕ → ℕ
place_after Up low high step = low + step
place_after Down low high step = high - (step + 1)

-- at the place somebody waits afterwards, or nobody, and all else is as before
pub record IsMarked (before after : List Spot) (i : ℕ) (waits : Bool) : Type 0 where
  pub this : (s : Spot) → slice_get before i ≡ Some s → slice_get after i ≡ Some (record s { waits = waits })
  pub others : (j : ℕ) → j ≢ i → slice_get after j ≡ slice_get before j

-- the next that waited on this way does not wait any more
pub record IsNextTaken (way : Way) (before after : List Spot) (s : Spot) : Type 0 where
  pub place : ℕ
  pub at : slice_get before place ≡ Some s
  pub next : IsNextPlace way before place
  pub marked : IsMarked before after place false

-- these are spots of the ASes, in their order, by rank, and nobody waits
pub record AreSpotsOf (rank : ℕ → ℕ) (ases : List ℕ) (spots : List Spot) : Type 0 where
  pub each : (i : ℕ) (s : Spot) → slice_get spots i ≡ Some s → slice_get ases i ≡ Some s.asn
  pub ranked : AreRanked rank spots
  pub rising : AreRising spots
  pub none : NoneWaits spots
