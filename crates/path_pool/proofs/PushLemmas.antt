-- A new path in a cell behind the others: as if a free cell had stood there before.
use Rattle.std.proofs.Common.{◌≡◌, ℕ, zero, suc, ◌+◌, ◌-◌, ◌<◌, List, [], ◌∷◌, ◌++◌, length, get_or, set, refl, ap, sym, ◌∙◌, subst, arith}
use Rattle.std.proofs.lemmas.List.{get_or_append_left, get_or_at}
use Rattle.path_pool.specs.declared.pool.Cell.{Cell}
use Rattle.path_pool.specs.Region.{blank, cell_at, with_count, list_of, IsLive, IsRegion, CanFollow, GainsCell, SameCells, dead_cell}
use Rattle.path_pool.proofs.RegionLemmas.{live_inside, take_region_at}
use Rattle.path_pool.proofs.GrowLemmas.{grow_region, grow_same}
use Rattle.path_pool.proofs.ConsLemmas.{over, gains_over, gains_after}

-- the last cell is written
set_last : (xs : List Cell) (d y : Cell) (n : ℕ) → n ≡ length xs → set (xs ++ d ∷ []) n y ≡ xs ++ y ∷ []
set_last [] d y n e = ap (λ i. set (d ∷ []) i y) e
set_last (x ∷ xs) d y zero e = absurd (omega (arith, e))
set_last (x ∷ xs) d y (suc n) e = ap (λ l. x ∷ l) (set_last xs d y n (omega (arith, e)))

-- another one is
set_before : (xs : List Cell) (d v : Cell) (t : ℕ) → t < length xs → set (xs ++ d ∷ []) t v ≡ set xs t v ++ d ∷ []
set_before [] d v t l = absurd (omega (arith, l))
set_before (x ∷ xs) d v zero l = refl
set_before (x ∷ xs) d v (suc t) l = ap (λ l. x ∷ l) (set_before xs d v t (omega (arith, l)))

pub same_length : (xs : List Cell) (t : ℕ) (v : Cell) → length (set xs t v) ≡ length xs
same_length [] t v = refl
same_length (x ∷ xs) zero v = refl
same_length (x ∷ xs) (suc t) v = ap suc (same_length xs t v)

-- the free cell that stands behind the others in thought
abbrev free_one : ℕ → ℕ → Cell
free_one free spare = dead_cell 0 free (spare + 1)

one_back : (n : ℕ) → n + 1 - 1 ≡ n
one_back n = omega arith

-- what can follow in a region can where it has a free cell more
follows_more : (xs : List Cell) (free spare limit : ℕ) (y : Cell) → IsRegion xs free spare limit → CanFollow xs y → CanFollow (xs ++ free_one free spare ∷ []) y
follows_more xs free spare limit y r w =
    let zs : List Cell = xs ++ free_one free spare ∷ [] in
    let same : SameCells xs zs = grow_same xs free spare limit (free_one free spare) r refl in
    let left : (p : 1 < y.len) → cell_at zs y.tail ≡ cell_at xs y.tail = λ p. get_or_append_left xs (free_one free spare ∷ []) blank y.tail (live_inside xs y.tail (w.live p)) in
    record {
      held = w.held;
      some = w.some;
      live = λ p. same.stays_live y.tail (w.live p);
      free_hold = λ p. omega (arith, w.free_hold p, same.holds y.tail, same.counts y.tail);
      shorter = λ p. omega (arith, w.shorter p, ap (λ (c : Cell). c.len) (left p));
      single_last = w.single_last;
      longer_last = λ p. w.longer_last p ∙ sym (ap (λ (c : Cell). c.last) (left p));
    }

-- a region with one more path, of a cell behind the others
pub push_region : (xs : List Cell) (free spare limit : ℕ) (y : Cell) → IsRegion xs free spare limit → length xs < limit → CanFollow xs y → IsRegion (xs ++ y ∷ []) free spare limit
push_region xs free spare limit y r room w =
    let d : Cell = free_one free spare in
    let zs : List Cell = xs ++ d ∷ [] in
    let more : IsRegion zs (length xs) (spare + 1) limit = grow_region xs free spare limit d r room refl refl refl in
    subst (λ n. IsRegion (xs ++ y ∷ []) free n limit) (one_back spare)
    (subst (λ ys. IsRegion ys free (spare + 1 - 1) limit) (set_last xs d y (length xs) refl)
    (take_region_at zs (length xs) (spare + 1) limit y d more (omega arith) (follows_more xs free spare limit y r w) (sym (get_or_at xs d [] blank (length xs) refl))))

-- a path over one that is there
pub push_over : (xs : List Cell) (free spare limit t h : ℕ) (v : Cell) → IsRegion xs free spare limit → IsLive xs t → v ≡ get_or xs t v → length xs < limit →
    GainsCell xs (with_count xs t (v.count + 1) ++ over h t v ∷ []) (length xs) (h ∷ list_of xs t)
push_over xs free spare limit t h v r a read room =
    let d : Cell = free_one free spare in
    let zs : List Cell = xs ++ d ∷ [] in
    let y : Cell = over h t v in
    let inside : t < length xs = live_inside xs t a in
    let left : cell_at zs t ≡ cell_at xs t = get_or_append_left xs (d ∷ []) blank t inside in
    let more : IsRegion zs (length xs) (spare + 1) limit = grow_region xs free spare limit d r room refl refl refl in
    let same : SameCells xs zs = grow_same xs free spare limit d r refl in
    let made : GainsCell zs (set (with_count zs t (v.count + 1)) (length xs) y) (length xs) (h ∷ list_of zs t) =
    gains_over zs (length xs) (spare + 1) limit t h v more (same.stays_live t a) (read ∙ sym (get_or_append_left xs (d ∷ []) v t inside)) (omega arith) in
    let cells : set (with_count zs t (v.count + 1)) (length xs) y ≡ with_count xs t (v.count + 1) ++ y ∷ [] =
    ap (λ (c : Cell). set (set zs t (record c { count = v.count + 1 })) (length xs) y) left
    ∙ ap (λ ys. set ys (length xs) y) (set_before xs d (record (cell_at xs t) { count = v.count + 1 }) t inside)
    ∙ set_last (with_count xs t (v.count + 1)) d y (length xs) (sym (same_length xs t (record (cell_at xs t) { count = v.count + 1 }))) in
    gains_after xs zs (with_count xs t (v.count + 1) ++ y ∷ []) (length xs) (h ∷ list_of xs t) same
    (subst (λ ys. GainsCell zs ys (length xs) (h ∷ list_of xs t)) cells
    (subst (λ ns. GainsCell zs (set (with_count zs t (v.count + 1)) (length xs) y) (length xs) (h ∷ ns)) (same.lists t a) made))
