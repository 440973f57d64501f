-- What is known of the ends of places while they are sought.
use Rattle.std.specs.Prelude.{◌≡◌, ◌≢◌, ◌⊎◌, ℕ, ◌+◌, ◌<◌, ◌≤◌, Bool, true, false, not, Option, Some, None, List, length, slice_index_or, nat_eq}
use Rattle.std.specs.List.{count_by, list_any}
use Rattle.data_trace.specs.declared.places.PlaceHop.{PlaceHop}
use Rattle.data_trace.specs.declared.places.PlaceHop.TheVariants.{Here, To, NoRoute}
use Rattle.data_trace.specs.declared.places.PlaceEnd.{PlaceEnd}
use Rattle.data_trace.specs.declared.places.Mark.{Mark}
use Rattle.data_trace.specs.declared.places.Mark.TheVariants.{Unknown, Walked, Known}
use Rattle.data_trace.specs.declared.kinds.Hop.{Hop}
use Rattle.data_trace.specs.declared.kinds.Hop.TheVariants as hop
use Rattle.data_trace.specs.declared.kinds.End.{End}
use Rattle.data_trace.specs.declared.kinds.End.TheVariants as the_end
use Rattle.data_trace.specs.declared.places.PlaceEnd.TheVariants as place_end
use Rattle.data_trace.specs.Traces.{IsIn}
use Rattle.data_trace.specs.Steps.{Ends}

-- the next hop, where places stand for ASes
abbrev pub as_hop : PlaceHop → Hop
as_hop NoRoute = hop.NoRoute
as_hop Here = hop.Here
as_hop (To y) = hop.To y

-- the end, where places stand for ASes
abbrev pub as_end : PlaceEnd → End
as_end place_end.NoRoute = the_end.NoRoute
as_end place_end.Loop = the_end.Loop
as_end (place_end.At y) = the_end.At y

-- where a place sends
abbrev pub hop_at : List PlaceHop → ℕ → PlaceHop
hop_at hops a = slice_index_or hops a NoRoute

-- the next hop of each place
abbrev pub next_of : List PlaceHop → ℕ → Hop
next_of hops a = as_hop (hop_at hops a)

abbrev pub mark_of : List Mark → ℕ → Mark
mark_of marks a = slice_index_or marks a Unknown

-- next hops are places
abbrev pub IsWithin : List PlaceHop → Type 0
IsWithin hops = (a b : ℕ) → hop_at hops a ≡ To b → b < length hops

abbrev pub is_unknown : Mark → Bool
is_unknown Unknown = true
is_unknown Walked = false
is_unknown (Known e) = false

-- whether the mark tells anything, which is cleared where an end is sought anew
abbrev pub is_known : Mark → Bool
is_known m = not (is_unknown m)

-- the end that a mark tells, if it tells one
abbrev pub end_in : Mark → Option PlaceEnd
end_in Unknown = None
end_in Walked = None
end_in (Known e) = Some e

-- between two walks: known ends are right
pub record AreRight (next : ℕ → Hop) (marks : List Mark) : Type 0 where
  pub known : (x : ℕ) (e : PlaceEnd) → mark_of marks x ≡ Known e → Ends next x (as_end e)
  pub none_walked : (x : ℕ) → mark_of marks x ≢ Walked

-- in a walk that has come to `at`
pub record IsWalk (next : ℕ → Hop) (old marks : List Mark) (path : List ℕ) (from at : ℕ) : Type 0 where
  pub inside : at < length marks
  pub len : length marks ≡ length old
  pub onwards : (x : ℕ) → mark_of marks x ≡ Walked → (y : ℕ) × (next x ≡ hop.To y) × ((mark_of marks y ≡ Walked) ⊎ (y ≡ at))
  pub leads : (x : ℕ) → mark_of marks x ≡ Walked → (e : End) → Ends next at e → Ends next x e
  pub known : (x : ℕ) (e : PlaceEnd) → mark_of marks x ≡ Known e → Ends next x (as_end e)
  pub kept : (x : ℕ) → mark_of old x ≢ Unknown → mark_of marks x ≡ mark_of old x
  pub on_path : (x : ℕ) → mark_of marks x ≡ Walked → IsIn x path
  pub started : (mark_of marks from ≡ Walked) ⊎ (from ≡ at)
  pub all_walked : (k : ℕ) → k < length path → mark_of marks (slice_index_or path k 0) ≡ Walked
  pub room : length path + count_by is_unknown marks ≤ length old

-- a walk that has come to this end
pub record IsWalked (next : ℕ → Hop) (old marks : List Mark) (path : List ℕ) (from : ℕ) (end : PlaceEnd) : Type 0 where
  pub len : length marks ≡ length old
  pub walked : (x : ℕ) → mark_of marks x ≡ Walked → Ends next x (as_end end)
  pub known : (x : ℕ) (e : PlaceEnd) → mark_of marks x ≡ Known e → Ends next x (as_end e)
  pub kept : (x : ℕ) → mark_of old x ≢ Unknown → mark_of marks x ≡ mark_of old x
  pub on_path : (x : ℕ) → mark_of marks x ≡ Walked → IsIn x path
  pub started : mark_of marks from ≢ Unknown
  pub all_walked : (k : ℕ) → k < length path → mark_of marks (slice_index_or path k 0) ≡ Walked

-- right, and of the known ones none changed
pub record Settles (next : ℕ → Hop) (old marks : List Mark) (from : ℕ) : Type 0 where
  pub len : length marks ≡ length old
  pub right : AreRight next marks
  pub kept : (x : ℕ) → mark_of old x ≢ Unknown → mark_of marks x ≡ mark_of old x
  pub known : mark_of marks from ≢ Unknown

-- each of the n places has a mark, which is the end of a packet from it
pub record AreEnds (next : ℕ → Hop) (n : ℕ) (marks : List Mark) : Type 0 where
  pub len : length marks ≡ n
  pub ends : (x : ℕ) → x < n → ∥ ((e : PlaceEnd) × (mark_of marks x ≡ Known e) × Ends next x (as_end e)) ∥₁

-- of a path whose first i places got this end
pub record IsSettling (old marks : List Mark) (front : List ℕ) (end : PlaceEnd) : Type 0 where
  pub len : length marks ≡ length old
  pub done : (x : ℕ) → list_any (nat_eq x) front ≡ true → mark_of marks x ≡ Known end
  pub rest : (x : ℕ) → list_any (nat_eq x) front ≡ false → mark_of marks x ≡ mark_of old x
