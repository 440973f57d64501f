-- Queues of ASes by rank: who waits, who is taken out, and who is put in.
use Rattle.std.specs.Prelude.{◌≡◌, ◌≢◌, ◌⊎◌, ℕ, Bool, true, false, ◌||◌, Option, None, Some, List}
use Rattle.std.specs.List.{slice_get}
use Rattle.net_names.specs.declared.routes.Rel.{Rel}
use Rattle.as_graph.specs.declared.neighbour.Neighbour.{Neighbour}
use Rattle.dirty_recompute.specs.declared.queue.Queue.{Queue}
use Rattle.dirty_recompute.specs.declared.spots.Spots.{Spots}
use Rattle.dirty_recompute.specs.declared.way.Way.{Way}
use Rattle.dirty_recompute.specs.Ways.{IsNoLater}
use Rattle.dirty_recompute.specs.Spots.{spots_have, AreRanked}
use Rattle.dirty_recompute.specs.Fews.{few_has, AreKeys}

-- one of the spots has the pair, where there are spots
abbrev pub spots_in : (ℕ → ℕ) → Option Spots → ℕ × ℕ → Bool
spots_in rank None k = false
spots_in rank (Some spots) k = spots_have rank spots.items.items k

-- the queue has the pair, of a rank and an AS
abbrev pub contains : (ℕ → ℕ) → Queue → ℕ × ℕ → Bool
contains rank queue k = spots_in rank queue.spots k || few_has rank queue.few k

-- b waits in the queue, under its rank
abbrev pub waits : (ℕ → ℕ) → Queue → ℕ → Bool
waits rank queue b = contains rank queue (rank b, b)

-- each pair of the queue is an AS under its rank, and so is each spot
pub record HasRanks (rank : ℕ → ℕ) (queue : Queue) : Type 0 where
  pub keys : AreKeys rank (contains rank queue)
  pub spots : (s : Spots) → queue.spots ≡ Some s → AreRanked rank s.items.items

-- the queue has the same pairs as before
pub record IsSame (rank : ℕ → ℕ) (before after : Queue) : Type 0 where
  pub pairs : (k : ℕ × ℕ) → contains rank after k ≡ contains rank before k
  pub ranks : HasRanks rank before → HasRanks rank after

-- just these ASes came into the queue, and all that waited wait on
pub record IsAdded (rank : ℕ → ℕ) (before after : Queue) (who : ℕ → Type 0) : Type 0 where
  pub ranks : HasRanks rank before → HasRanks rank after
  pub kept : (b : ℕ) → waits rank before b ≡ true → waits rank after b ≡ true
  pub put : (b : ℕ) → who b → waits rank after b ≡ true
  pub from : (b : ℕ) → waits rank after b ≡ true → (waits rank before b ≡ true) ⊎ who b

-- only such ASes came into the queue, and of them all but those that may be left out; all that waited wait on
pub record AreQueued (rank : ℕ → ℕ) (before after : Queue) (who left : ℕ → Type 0) : Type 0 where
  pub ranks : HasRanks rank before → HasRanks rank after
  pub kept : (b : ℕ) → waits rank before b ≡ true → waits rank after b ≡ true
  pub put : (b : ℕ) → who b → (waits rank after b ≡ true) ⊎ left b
  pub from : (b : ℕ) → waits rank after b ≡ true → (waits rank before b ≡ true) ⊎ who b

-- a was taken out of the queue, and all others that waited wait on
pub record IsTaken (rank : ℕ → ℕ) (before after : Queue) (a : ℕ) : Type 0 where
  pub waited : waits rank before a ≡ true
  pub gone : waits rank after a ≡ false
  pub kept : (b : ℕ) → b ≢ a → waits rank before b ≡ true → waits rank after b ≡ true
  pub from : (b : ℕ) → waits rank after b ≡ true → waits rank before b ≡ true
  pub ranks : HasRanks rank after

-- a was taken out of the queue, and none waited that comes earlier on this way
pub record IsNext (way : Way) (rank : ℕ → ℕ) (before after : Queue) (a : ℕ) : Type 0 where
  pub taken : IsTaken rank before after a
  pub next : (b : ℕ) → waits rank before b ≡ true → IsNoLater way (rank a) (rank b)

-- b is one of the neighbours, and is this to the AS
abbrev pub IsAmong : List Neighbour → Rel → ℕ → Type 0
IsAmong neighbours wanted b = (i : ℕ) × (n : Neighbour) × (slice_get neighbours i ≡ Some n) × (n.asn ≡ b) × (n.rel ≡ wanted)

-- b is one of the numbers
abbrev pub IsIn : List ℕ → ℕ → Type 0
IsIn xs b = (i : ℕ) × (slice_get xs i ≡ Some b)
