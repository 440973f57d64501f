-- At whom the packets of ASes end.
use Rattle.std.specs.Prelude.{◌≡◌, ◌<◌, ◌⊎◌, ◌+◌, ◌-◌, ◌==◌, if◌then◌else◌, ℕ, List, length, slice_index}
use Rattle.data_trace.specs.declared.kinds.Hop.{Hop}
use Rattle.data_trace.specs.declared.kinds.Hop.TheVariants.{Here, To}
use Rattle.data_trace.specs.declared.kinds.End.TheVariants as the_end
use Rattle.data_trace.specs.Traces.{IsTrace}
use Rattle.routing_tree.specs.declared.tree.RoutingTree.{RoutingTree}

-- where the AS at a place sends a packet by a tree: here if it is its own parent, else to its parent
abbrev pub hop_by : List ℕ → RoutingTree → ℕ → Hop
hop_by ases t k = if slice_index t.parents.items k == k then Here else To (slice_index ases (slice_index t.parents.items k))

-- each AS whose packets are known to end somewhere has a trace that ends there; 0 stands where no end is known, else the place of the AS and one
abbrev pub AreEnds : (ℕ → Hop) → List ℕ → List ℕ → Type 0
AreEnds next ases ends = (k : ℕ) → k < length ases → (slice_index ends k ≡ 0) ⊎ ((slice_index ends k - 1 < length ases)
    × (walk : List ℕ) × IsTrace next (slice_index ases k) walk (the_end.At (slice_index ases (slice_index ends k - 1))))

-- whoever has no end yet and holds something in the tree sends its packets by the tree
abbrev pub SendBy : (ℕ → Hop) → List ℕ → RoutingTree → List ℕ → Type 0
SendBy next ases t ends = (k : ℕ) → k < length ases → slice_index ends k ≡ 0 → 0 < slice_index t.lengths.items k → next (slice_index ases k) ≡ hop_by ases t k

-- the end by a tree of the AS at a place: its own where it is its own parent, else that of its parent
abbrev pub end_by : List ℕ → RoutingTree → ℕ → ℕ
end_by ends t k = if slice_index t.parents.items k == k then k + 1 else slice_index ends (slice_index t.parents.items k)

-- ends come by the tree to ASes that hold something in it; those that were known stay
pub record FollowOn (t : RoutingTree) (old new : List ℕ) : Type 0 where
  pub count : length new ≡ length old
  pub stay : (k : ℕ) → 0 < slice_index old k → slice_index new k ≡ slice_index old k
  pub none : (k : ℕ) → slice_index old k ≡ 0 → slice_index t.lengths.items k ≡ 0 → slice_index new k ≡ 0
  pub ends : (next : ℕ → Hop) (ases : List ℕ) → length ases ≡ length old → AreEnds next ases old → SendBy next ases t old → AreEnds next ases new
