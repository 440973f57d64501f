-- What one more or one less hold of a cell leaves.
use Rattle.std.proofs.Common.{◌≡◌, ◌≢◌, ℕ, ◌+◌, ◌<◌, ◌≤◌, ◌&&◌, ltb, eqb, List, length, set, ap, sym, ◌∙◌, subst, arith, length-set, inl, inr}
use Rattle.std.proofs.lemmas.Bool.{cases_eq, cases_lt, lt-ltb}
use Rattle.path_pool.specs.declared.pool.Cell.{Cell}
use Rattle.path_pool.specs.Region.{cell_at, list_of, IsLive, is_live, is_above, cells_above, live_count, IsRegion, GainsHold}
use Rattle.path_pool.proofs.RegionLemmas.{one_if, count-set, at_same, at_other, live_inside, SameKind, kind_same, lists_same, linked_same}

pub above_by_count : (k : ℕ) (c : Cell) (m : ℕ) → 0 < c.count → 0 < m → is_above k (record c { count = m }) ≡ is_above k c
above_by_count k c m a b = ap (λ t. (t && ltb 1 c.len) && eqb c.tail k) (lt-ltb 0 m b ∙ sym (lt-ltb 0 c.count a))

pub rehold_kind : (xs : List Cell) (t m j : ℕ) → IsLive xs t → 0 < m → SameKind (cell_at xs j) (cell_at (set xs t (record (cell_at xs t) { count = m })) j)
rehold_kind xs t m j a b =
    elim (cases_eq j t) [
      | inl e ↦
          let same : cell_at (set xs t (record (cell_at xs t) { count = m })) j ≡ record (cell_at xs t) { count = m } =
          ap (cell_at (set xs t (record (cell_at xs t) { count = m }))) e ∙ at_same xs t (record (cell_at xs t) { count = m }) (live_inside xs t a) in
          let old : cell_at xs j ≡ cell_at xs t = ap (cell_at xs) e in
          record {
            head = ap (λ (c : Cell). c.head) same ∙ sym (ap (λ (c : Cell). c.head) old);
            tail = ap (λ (c : Cell). c.tail) same ∙ sym (ap (λ (c : Cell). c.tail) old);
            len = ap (λ (c : Cell). c.len) same ∙ sym (ap (λ (c : Cell). c.len) old);
            last = ap (λ (c : Cell). c.last) same ∙ sym (ap (λ (c : Cell). c.last) old);
            alive = λ _. omega (arith, b, ap (λ (c : Cell). c.count) same);
            dead = λ _. omega (arith, a, ap (λ (c : Cell). c.count) old);
          }
      | inr n ↦ kind_same _ _ (at_other xs t j (record (cell_at xs t) { count = m }) n)
    ]

pub rehold_above : (xs : List Cell) (t m k : ℕ) → IsLive xs t → 0 < m → cells_above (set xs t (record (cell_at xs t) { count = m })) k ≡ cells_above xs k
rehold_above xs t m k a b =
    let both : cells_above (set xs t (record (cell_at xs t) { count = m })) k + one_if (is_above k (cell_at xs t)) ≡ cells_above xs k + one_if (is_above k (record (cell_at xs t) { count = m })) =
    count-set (is_above k) xs t (record (cell_at xs t) { count = m }) (live_inside xs t a) in
    let e : one_if (is_above k (record (cell_at xs t) { count = m })) ≡ one_if (is_above k (cell_at xs t)) = ap one_if (above_by_count k (cell_at xs t) m a b) in
    omega (arith, both, e)

pub rehold_at : (xs : List Cell) (t m : ℕ) → IsLive xs t → (cell_at (set xs t (record (cell_at xs t) { count = m })) t).count ≡ m
rehold_at xs t m a = ap (λ (c : Cell). c.count) (at_same xs t (record (cell_at xs t) { count = m }) (live_inside xs t a))

pub rehold_region : (xs : List Cell) (free spare limit t m : ℕ) → IsRegion xs free spare limit → IsLive xs t → 0 < m → cells_above xs t ≤ m →
    IsRegion (set xs t (record (cell_at xs t) { count = m })) free spare limit
rehold_region xs free spare limit t m r a b n =
    let y : Cell = record (cell_at xs t) { count = m } in
    let inside : t < length xs = live_inside xs t a in
    let len : length (set xs t y) ≡ length xs = length-set xs t y in
    let kind : (j : ℕ) → SameKind (cell_at xs j) (cell_at (set xs t y) j) = λ j. rehold_kind xs t m j a b in
    let old_dead : (j : ℕ) → (cell_at (set xs t y) j).count ≡ 0 → (cell_at xs j).count ≡ 0 = λ j e. zero_from (cell_at xs j).count (λ p. omega (arith, e, (kind j).alive p)) in
    let new_dead : (j : ℕ) → (cell_at xs j).count ≡ 0 → (cell_at (set xs t y) j).count ≡ 0 = λ j e. zero_from (cell_at (set xs t y) j).count (λ p. omega (arith, e, (kind j).dead p)) in
    let live : live_count (set xs t y) ≡ live_count xs =
    omega (arith, count-set is_live xs t y inside, ap one_if (lt-ltb 0 m b), ap one_if (lt-ltb 0 (cell_at xs t).count a)) in
    record {
      linked = λ j l. linked_same xs (set xs t y) j (omega (arith, len)) (kind j) (λ _. kind (cell_at xs j).tail) (r.linked j (omega (arith, l, len)));
      counted = λ j. elim (cases_eq j t) [
        | inl e ↦ subst (λ i. cells_above (set xs t y) i ≤ (cell_at (set xs t y) i).count) (sym e) (omega (arith, rehold_above xs t m t a b, rehold_at xs t m a, n))
        | inr o ↦ omega (arith, rehold_above xs t m j a b, ap (λ (c : Cell). c.count) (at_other xs t j y o), r.counted j)
      ];
      first_inside = λ s. omega (arith, len, r.first_inside s);
      first_dead = λ s. new_dead free (r.first_dead s);
      first_len = λ s. (kind free).len ∙ r.first_len s;
      dead_short = λ j l e. omega (arith, (kind j).len, r.dead_short j (omega (arith, l, len)) (old_dead j e));
      dead_apart = λ i j l1 l2 e1 e2 e. r.dead_apart i j (omega (arith, l1, len)) (omega (arith, l2, len)) (old_dead i e1) (old_dead j e2) (sym (kind i).len ∙ e ∙ (kind j).len);
      all_counted = omega (arith, live, len, r.all_counted);
      within = omega (arith, len, r.within);
      limited = r.limited;
    }
  where
    zero_from : (n : ℕ) → (0 < n → ⊥) → n ≡ 0
    zero_from n h = elim (cases_lt 0 n) [ inl l ↦ absurd (h l) | inr g ↦ omega (arith, g) ]

pub rehold_lists : (xs : List Cell) (free spare limit t m : ℕ) → IsRegion xs free spare limit → IsLive xs t → 0 < m →
    (k : ℕ) → IsLive xs k → list_of (set xs t (record (cell_at xs t) { count = m })) k ≡ list_of xs k
rehold_lists xs free spare limit t m r a b k h =
    lists_same (IsLive xs) xs (set xs t (record (cell_at xs t) { count = m }))
    (λ j _. rehold_kind xs t m j a b)
    (λ j p l. (r.linked j (live_inside xs j p)).both_live l p)
    (λ j p l. (r.linked j (live_inside xs j p)).shorter l)
    k h

-- one more hold
pub rehold_gains : (xs : List Cell) (free spare limit t m : ℕ) → IsRegion xs free spare limit → IsLive xs t → m ≡ (cell_at xs t).count + 1 →
    GainsHold xs (set xs t (record (cell_at xs t) { count = m })) t
rehold_gains xs free spare limit t m r a e =
    let ys : List Cell = set xs t (record (cell_at xs t) { count = m }) in
    let some : 0 < m = omega (arith, e) in
    let at : (k : ℕ) → k ≢ t → (cell_at ys k).count ≡ (cell_at xs k).count = λ k n. ap (λ (c : Cell). c.count) (at_other xs t k (record (cell_at xs t) { count = m }) n) in
    record {
      one_more = omega (arith, e, r.counted t, rehold_above xs t m t a some, rehold_at xs t m a);
      other_holds = λ k n. omega (arith, rehold_above xs t m k a some, at k n);
      counts = λ k. elim (cases_eq k t) [
        | inl q ↦ omega (arith, e, rehold_at xs t m a, ap (λ i. (cell_at ys i).count) q, ap (λ i. (cell_at xs i).count) q)
        | inr n ↦ omega (arith, at k n)
      ];
      stays_live = λ k. (rehold_kind xs t m k a some).alive;
      was_live = λ k. (rehold_kind xs t m k a some).dead;
      lists = rehold_lists xs free spare limit t m r a some;
    }
