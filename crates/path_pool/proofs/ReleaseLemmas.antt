-- What one step of a release leaves.
use Rattle.std.proofs.Common.{◌≡◌, ◌≢◌, ℕ, ◌+◌, ◌<◌, ◌≤◌, Bool, true, false, ◌&&◌, ltb, eqb, List, length, get_or, set, refl, ap, sym, ◌∙◌, subst, arith, length-set, inl, inr}
use Rattle.std.proofs.lemmas.Bool.{cases_eq, lt-ltb, eq-eqb, ne_eqb, ltb-true, false≢true}
use Rattle.path_pool.specs.declared.pool.Cell.{Cell}
use Rattle.path_pool.specs.Region.{cell_at, list_of, IsLive, is_above, cells_above, holds_of, IsRegion, LosesHold}
use Rattle.path_pool.proofs.RegionLemmas.{at_same, at_other, cell_read, live_inside, one_if, drop_above, drop_lists}
use Rattle.path_pool.proofs.HoldLemmas.{rehold_kind, rehold_above, rehold_at, rehold_lists}

-- On the way of a release of id: where `more` says so, the cell `at` still has a hold to be given back.
pub record IsReleasing (old new : List Cell) (id at : ℕ) (more : Bool) : Type 0 where
  pub owed : more ≡ true → 0 < holds_of new at
  pub holds : (k : ℕ) → holds_of new k + one_if (eqb id k) ≡ holds_of old k + one_if (more && eqb at k)
  pub counts : (k : ℕ) → (cell_at new k).count ≤ (cell_at old k).count
  pub was_live : (k : ℕ) → IsLive new k → IsLive old k
  pub lists : (k : ℕ) → IsLive new k → list_of new k ≡ list_of old k
  pub size : length new ≡ length old

-- what is read where a hold is to be given back is the cell, and it is live
pub read_owed : (xs : List Cell) (i : ℕ) (v : Cell) → 0 < holds_of xs i → v ≡ get_or xs i v → (v ≡ cell_at xs i) × (0 < v.count)
read_owed xs i v owed read =
    let live : IsLive xs i = omega (arith, owed) in
    let e : v ≡ cell_at xs i = cell_read xs i v (live_inside xs i live) read in
    (e, (let count : v.count ≡ (cell_at xs i).count = ap (λ (c : Cell). c.count) e in omega (arith, count, live)))

pub releasing_start : (xs : List Cell) (id : ℕ) → 0 < holds_of xs id → IsReleasing xs xs id id true
releasing_start xs id h = record {
  owed = λ _. h;
  holds = λ k. refl;
  counts = λ k. omega arith;
  was_live = λ k a. a;
  lists = λ k a. refl;
  size = refl;
}

pub releasing_end : (old new : List Cell) (id at : ℕ) → IsReleasing old new id at false → LosesHold old new id
releasing_end old new id at r = record {
  one_less = omega (arith, r.holds id, ap one_if (eq-eqb id id refl));
  other_holds = λ k n. omega (arith, r.holds k, ap one_if (ne_eqb id k (λ e. n (sym e))));
  counts = r.counts;
  was_live = r.was_live;
  lists = r.lists;
}

pub releasing_keep : (old xs : List Cell) (free spare limit id at m : ℕ) → IsRegion xs free spare limit → IsReleasing old xs id at true →
    m + 1 ≡ (cell_at xs at).count → 0 < m → IsReleasing old (set xs at (record (cell_at xs at) { count = m })) id at false
releasing_keep old xs free spare limit id at m r w e some =
    let a : IsLive xs at = omega (arith, e) in
    let y : Cell = record (cell_at xs at) { count = m } in
    let owed : 0 < holds_of xs at = w.owed refl in
    let was_live : (k : ℕ) → IsLive (set xs at y) k → IsLive xs k = λ k b. (rehold_kind xs at m k a some).dead b in
    record {
      owed = λ t. absurd (false≢true t);
      holds = λ k. elim (cases_eq at k) [
        | inl q ↦ subst (λ i. holds_of (set xs at y) i + one_if (eqb id i) ≡ holds_of old i + 0) q
            (omega (arith, w.holds at, ap one_if (eq-eqb at at refl), rehold_above xs at m at a some, rehold_at xs at m a, e, owed))
        | inr n ↦ omega (arith, w.holds k, ap one_if (ne_eqb at k n), rehold_above xs at m k a some, ap (λ (c : Cell). c.count) (at_other xs at k y (λ q. n (sym q))))
      ];
      counts = λ k. elim (cases_eq k at) [
        | inl q ↦ omega (arith, w.counts k, rehold_at xs at m a, e, ap (λ i. (cell_at (set xs at y) i).count) q, ap (λ i. (cell_at xs i).count) q)
        | inr n ↦ omega (arith, w.counts k, ap (λ (c : Cell). c.count) (at_other xs at k y n))
      ];
      was_live = λ k b. w.was_live k (was_live k b);
      lists = λ k b. rehold_lists xs free spare limit at m r a some k (was_live k b) ∙ w.lists k (was_live k b);
      size = length-set xs at y ∙ w.size;
    }

above_when : (k : ℕ) (c : Cell) → 0 < c.count → is_above k c ≡ (ltb 1 c.len && eqb c.tail k)
above_when k c a = ap (λ t. (t && ltb 1 c.len) && eqb c.tail k) (lt-ltb 0 c.count a)

pub releasing_free : (old xs : List Cell) (free spare limit id at : ℕ) (y : Cell) → IsRegion xs free spare limit → IsReleasing old xs id at true →
    (cell_at xs at).count ≡ 1 → y.count ≡ 0 →
    IsReleasing old (set xs at y) id (cell_at xs at).tail (ltb 1 (cell_at xs at).len)
releasing_free old xs free spare limit id at y r w one dead =
    let a : IsLive xs at = omega (arith, one) in
    let inside : at < length xs = live_inside xs at a in
    let owed : 0 < holds_of xs at = w.owed refl in
    let none : cells_above xs at ≡ 0 = omega (arith, owed, one) in
    let more : Bool = ltb 1 (cell_at xs at).len in
    let tail : ℕ = (cell_at xs at).tail in
    let apart : more ≡ true → tail ≢ at = λ t e.
    omega (arith, (r.linked at inside).shorter (ltb-true 1 (cell_at xs at).len t), ap (λ i. (cell_at xs i).len) e) in
    let other : (k : ℕ) → k ≢ at → cell_at (set xs at y) k ≡ cell_at xs k = λ k n. at_other xs at k y n in
    let lost : (k : ℕ) → cells_above (set xs at y) k + one_if (more && eqb tail k) ≡ cells_above xs k = λ k.
    omega (arith, drop_above xs at k y inside dead, ap one_if (above_when k (cell_at xs at) a)) in
    let gained : (k : ℕ) → k ≢ at → holds_of (set xs at y) k ≡ holds_of xs k + one_if (more && eqb tail k) = λ k n.
    omega (arith, lost k, r.counted k, ap (λ (c : Cell). c.count) (other k n)) in
    let was_live : (k : ℕ) → IsLive (set xs at y) k → (IsLive xs k) × (k ≢ at) = λ k b. elim (cases_eq k at) [
      | inl q ↦ absurd (omega (arith, b, dead, ap (λ i. (cell_at (set xs at y) i).count) q, ap (λ (c : Cell). c.count) (at_same xs at y inside)))
      | inr n ↦ (omega (arith, b, ap (λ (c : Cell). c.count) (other k n)), n)
    ] in
    record {
      owed = λ t. omega (arith, gained tail (apart t), ap one_if (and_true more (eqb tail tail) t (eq-eqb tail tail refl)));
      holds = λ k. elim (cases_eq at k) [
        | inl q ↦ subst (λ i. holds_of (set xs at y) i + one_if (eqb id i) ≡ holds_of old i + one_if (more && eqb tail i)) q
            (omega (arith, w.holds at, ap one_if (eq-eqb at at refl), one, none, dead, ap (λ (c : Cell). c.count) (at_same xs at y inside), lost at))
        | inr n ↦ omega (arith, w.holds k, ap one_if (ne_eqb at k n), gained k (λ q. n (sym q)))
      ];
      counts = λ k. elim (cases_eq k at) [
        | inl q ↦ omega (arith, w.counts k, dead, ap (λ (c : Cell). c.count) (at_same xs at y inside), ap (λ i. (cell_at (set xs at y) i).count) q)
        | inr n ↦ omega (arith, w.counts k, ap (λ (c : Cell). c.count) (other k n))
      ];
      was_live = λ k b. w.was_live k (was_live k b).0;
      lists = λ k b. drop_lists xs free spare limit at y r a none k (was_live k b).0 (was_live k b).1 ∙ w.lists k (was_live k b).0;
      size = length-set xs at y ∙ w.size;
    }
  where
    and_true : (p q : Bool) → p ≡ true → q ≡ true → (p && q) ≡ true
    and_true p q a b = rw (a, b) refl
