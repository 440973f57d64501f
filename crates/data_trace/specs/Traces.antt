-- The way of a packet, where each AS has a next hop.
use Rattle.std.specs.Prelude.{◌≡◌, ℕ, ◌-◌, ◌≤◌, true, nat_eq, List, length, slice_index}
use Rattle.std.specs.List.{list_any}
use Rattle.net_names.specs.Ways.{IsWay}
use Rattle.data_trace.specs.declared.kinds.Hop.{Hop}
use Rattle.data_trace.specs.declared.kinds.Hop.TheVariants.{Here, To, NoRoute}
use Rattle.data_trace.specs.declared.kinds.End.{End}
use Rattle.data_trace.specs.declared.kinds.End.TheVariants as the_end

-- the AS stands in the list
abbrev pub IsIn : ℕ → List ℕ → Type 0
IsIn a xs = list_any (nat_eq a) xs ≡ true

-- how a way ends whose last AS has this next hop: delivered there, without a route, or as a loop, where the packet comes back to an AS of the way
abbrev pub EndsBy : Hop → ℕ → List ℕ → End → Type 0
EndsBy Here last xs e = e ≡ the_end.At last
EndsBy NoRoute last xs e = e ≡ the_end.NoRoute
EndsBy (To b) last xs e = (list_any (nat_eq b) xs ≡ true) × (e ≡ the_end.Loop)

-- the trace of an AS: a way from it, each AS of which sends the packet to the next, that goes on to no further AS, and how that ends by the next hop of its last AS; no way from the AS is longer
pub record IsTrace (next : ℕ → Hop) (a : ℕ) (xs : List ℕ) (e : End) : Type 0 where
  pub way : IsWay (λ x y. next x ≡ To y) a xs
  pub ends : let last = slice_index xs (length xs - 1) in EndsBy (next last) last xs e

-- among finitely many ASes each has exactly one trace, and no way from it is longer
abbrev pub OneTrace : Type 0
OneTrace = (next : ℕ → Hop) (ases : List ℕ) → ((a b : ℕ) → next a ≡ To b → IsIn b ases) → (a : ℕ) →
    (xs : List ℕ) × (e : End) × IsTrace next a xs e × ((ys : List ℕ) (other : End) → IsTrace next a ys other → (ys ≡ xs) × (other ≡ e))
    × ((ys : List ℕ) → IsWay (λ x y. next x ≡ To y) a ys → length ys ≤ length xs)
