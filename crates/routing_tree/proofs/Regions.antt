-- Lists of a region that grows at its end.
use Rattle.std.proofs.Common.{◌≡◌, ◌<◌, ◌≤◌, ◌+◌, ◌-◌, ◌++◌, ℕ, List, [], ◌∷◌, length, take, drop, get_or, refl, arith}
use Rattle.std.proofs.lemmas.List.{get_or_append_left, take-append-le, drop-append-le, length-drop}
use Rattle.routing_tree.specs.Starts.{AreStarts}

pub kept : (starts items row : List ℕ) (n k : ℕ) → AreStarts starts (length items) → k < length starts - 1
    → take (get_or (starts ++ n ∷ []) (k + 1) 0 - get_or (starts ++ n ∷ []) k 0) (drop (get_or (starts ++ n ∷ []) k 0) (items ++ row))
    ≡ take (get_or starts (k + 1) 0 - get_or starts k 0) (drop (get_or starts k 0) items)
kept starts items row n k are lt =
    let a : get_or (starts ++ n ∷ []) k 0 ≡ get_or starts k 0 = get_or_append_left starts (n ∷ []) 0 k (omega (arith, lt)) in
    let b : get_or (starts ++ n ∷ []) (k + 1) 0 ≡ get_or starts (k + 1) 0 = get_or_append_left starts (n ∷ []) 0 (k + 1) (omega (arith, lt)) in
    let top : get_or starts (k + 1) 0 ≤ get_or starts (length starts - 1) 0 = are.rising (k + 1) (length starts - 1) (omega (arith, lt)) (omega (arith, lt)) in
    let up : get_or starts k 0 ≤ get_or starts (k + 1) 0 = are.rising k (k + 1) (omega arith) (omega (arith, lt)) in
    let end : get_or starts (length starts - 1) 0 ≡ length items = are.last in
    let len : length (drop (get_or starts k 0) items) ≡ length items - get_or starts k 0 = length-drop (get_or starts k 0) items in
    let d = drop-append-le (get_or starts k 0) items row (omega (arith, top, up, end)) in
    let t = take-append-le (get_or starts (k + 1) 0 - get_or starts k 0) (drop (get_or starts k 0) items) row (omega (arith, top, up, end, len)) in
    rw (a, b, d, t) refl
