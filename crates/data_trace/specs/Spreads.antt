-- Places whose ends are sought anew, in a queue.
use Rattle.std.specs.Prelude.{◌≡◌, ◌≢◌, ℕ, ◌+◌, ◌<◌, ◌≤◌, List, [], ◌∷◌, ◌++◌, length, slice_index_or, slice_set, Option, Some, None, if◌then◌else◌, nat_eq}
use Rattle.std.specs.List.{count_by, IsDistinct}
use Rattle.data_trace.specs.declared.places.Mark.{Mark}
use Rattle.data_trace.specs.declared.places.Mark.TheVariants.{Unknown}
use Rattle.data_trace.specs.Traces.{IsIn}
use Rattle.data_trace.specs.Marks.{mark_of, is_unknown, is_known}

-- the queue with x at its end, unless it was there already
abbrev pub queue_with : List Mark → List ℕ → ℕ → List ℕ
queue_with marks queue x = if is_unknown (mark_of marks x) then queue else queue ++ x ∷ []

-- the queue has exactly the unknown places, and marks have only become unknown
pub record IsFront (old marks : List Mark) (queue : List ℕ) : Type 0 where
  pub len : length marks ≡ length old
  pub within : (k : ℕ) → k < length queue → slice_index_or queue k 0 < length marks
  pub unknown : (k : ℕ) → k < length queue → mark_of marks (slice_index_or queue k 0) ≡ Unknown
  pub in_queue : (x : ℕ) → x < length marks → mark_of marks x ≡ Unknown → IsIn x queue
  pub kept : (x : ℕ) → mark_of marks x ≢ Unknown → mark_of marks x ≡ mark_of old x
  pub distinct : IsDistinct nat_eq queue
  pub room : length queue + count_by is_known marks ≤ length old

-- of the queue, the first `done` places have spread; those from `roots` on to the place after them too
pub record HasSpread (first after : ℕ → Option ℕ) (marks : List Mark) (queue : List ℕ) (roots done : ℕ) : Type 0 where
  pub firsts : (k y : ℕ) → k < done → first (slice_index_or queue k 0) ≡ Some y → mark_of marks y ≡ Unknown
  pub afters : (k y : ℕ) → k < done → roots ≤ k → after (slice_index_or queue k 0) ≡ Some y → mark_of marks y ≡ Unknown

-- x, if it is a place, is unknown and in the queue now
abbrev pub Forgets : Option ℕ → List Mark → List ℕ → List Mark → List ℕ → Type 0
Forgets None marks queue marks' queue' = (marks' ≡ marks) × (queue' ≡ queue)
Forgets (Some x) marks queue marks' queue' = (marks' ≡ slice_set marks x Unknown) × (queue' ≡ queue_with marks queue x)
