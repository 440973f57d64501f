-- Who needs a cell.
use Rattle.std.proofs.Common.{◌≡◌, ◌≢◌, ℕ, ◌<◌, ◌≤◌, Bool, true, false, ◌&&◌, ltb, eqb, cond, ◌+◌, subst, List, length, refl, ap, ◌∙◌, arith, inl, inr, Option, Some, None}
use Rattle.std.specs.Prelude.{◌⊎◌}
use Rattle.std.proofs.lemmas.Bool.{cases_lt, ltb-true, eqb-true, and_parts}
use Rattle.std.proofs.lemmas.List.Sums.{get_or-le-sum_by}
use Rattle.path_pool.specs.declared.pool.Cell.{Cell}
use Rattle.path_pool.specs.declared.path_id.PathId.{PathId}
use Rattle.path_pool.specs.Region.{blank, cell_at, tail_of, list_of, IsLive, is_above, cells_above, holds_of, IsRegion, GainsCell}
use Rattle.path_pool.proofs.RegionLemmas.{one_if, count_some, above_is, live_inside, length-list_of}

some_tail : (b : Bool) (t k : ℕ) → (let o : Option PathId = cond b (Some (record { 0 = t })) None in o ≡ Some (record { 0 = k })) → (b ≡ true) × (t ≡ k)
some_tail true t k e =
    let from : PathId = record { 0 = t } in
    let to : PathId = record { 0 = k } in
    let same : from ≡ to = cc in
    (refl, ap (λ (p : PathId). p.0) same)
some_tail false t k e = cc

-- one that is needed is live
pub needed_live : (xs : List Cell) (free spare limit k : ℕ) → IsRegion xs free spare limit →
    (0 < holds_of xs k) ⊎ ((j : ℕ) × (IsLive xs j × (tail_of (cell_at xs j) ≡ Some (record { 0 = k })))) → IsLive xs k
needed_live xs free spare limit k r (inl h) = omega (arith, h)
needed_live xs free spare limit k r (inr o) =
    let c : Cell = cell_at xs o.0 in
    let parts : (ltb 1 c.len ≡ true) × (c.tail ≡ k) = some_tail (ltb 1 c.len) c.tail k o.1.1 in
    let above : is_above k c ≡ true = above_is k c o.1.0 (ltb-true 1 c.len parts.0) parts.1 in
    let one : one_if (is_above k c) ≤ cells_above xs k = get_or-le-sum_by (λ c. one_if (is_above k c)) xs o.0 blank (live_inside xs o.0 o.1.0) in
    omega (arith, one, ap one_if above, r.counted k)

-- a path is one AS longer than its tail
pub tail_shorter : (xs : List Cell) (free spare limit j k : ℕ) → IsRegion xs free spare limit → IsLive xs j → tail_of (cell_at xs j) ≡ Some (record { 0 = k }) →
    length (list_of xs j) ≡ length (list_of xs k) + 1
tail_shorter xs free spare limit j k r live is =
    let c : Cell = cell_at xs j in
    let tail : (ltb 1 c.len ≡ true) × (c.tail ≡ k) = some_tail (ltb 1 c.len) c.tail k is in
    let less : (cell_at xs k).len + 1 ≡ c.len = subst (λ (t : ℕ). (cell_at xs t).len + 1 ≡ c.len) tail.1 ((r.linked j (live_inside xs j live)).shorter (ltb-true 1 c.len tail.0)) in
    omega (arith, length-list_of xs j, length-list_of xs k, less)

-- one that is live is needed
pub live_needed : (xs : List Cell) (k : ℕ) → IsLive xs k →
    (0 < holds_of xs k) ⊎ ((j : ℕ) × (IsLive xs j × (tail_of (cell_at xs j) ≡ Some (record { 0 = k }))))
live_needed xs k a =
    elim (cases_lt 0 (holds_of xs k)) [
      | inl h ↦ inl h
      | inr g ↦
          let s : (j : ℕ) × (j < length xs) × (is_above k (cell_at xs j) ≡ true) = count_some (is_above k) xs (omega (arith, g, a)) in
          let c : Cell = cell_at xs s.0 in
          let both : ((ltb 0 c.count && ltb 1 c.len) ≡ true) × (eqb c.tail k ≡ true) = and_parts (ltb 0 c.count && ltb 1 c.len) (eqb c.tail k) s.2 in
          let front : (ltb 0 c.count ≡ true) × (ltb 1 c.len ≡ true) = and_parts (ltb 0 c.count) (ltb 1 c.len) both.0 in
          let tail : tail_of c ≡ Some (record { 0 = k }) =
          let to : PathId = record { 0 = c.tail } in
          let some : tail_of c ≡ Some to = ap (λ b. cond b (Some to) None) front.1 in
          some ∙ ap (λ (t : ℕ). Some (record { 0 = t })) (eqb-true c.tail k both.1) in
          inr (s.0, (ltb-true 0 c.count front.0, tail))
    ]

-- a new path leaves the holds of those that were live, and gets another name than theirs
pub kept_apart : (old new : List Cell) (id : ℕ) (numbers : List ℕ) → GainsCell old new id numbers → (k : ℕ) → IsLive old k → (k ≢ id) × (holds_of new k ≡ holds_of old k)
kept_apart old new id numbers g k a =
    let apart : k ≢ id = λ e. omega (arith, a, g.fresh, ap (λ i. (cell_at old i).count) e) in
    (apart, g.other_holds k apart)
