-- What one more free cell leaves, and what a walk reads.
use Rattle.std.proofs.Common.{◌≡◌, ◌≢◌, ℕ, zero, suc, ◌+◌, ◌-◌, ◌<◌, ◌≤◌, Bool, true, ◌||◌, eqb, List, [], ◌∷◌, ◌++◌, length, refl, ap, sym, ◌∙◌, subst, arith, length-append, inl, inr, get_or}
use Rattle.std.specs.List.{count_by, list_any}
use Rattle.std.proofs.lemmas.Bool.{cases_eq, cases_lt, le-ltb, eq-eqb, ne_eqb}
use Rattle.std.proofs.lemmas.List.{get_or_append_left, get_or_at, get_or_past}
use Rattle.std.proofs.lemmas.List.Sums.{sum_by_push}
use Rattle.net_names.specs.Numbers.{last_or}
use Rattle.path_pool.specs.declared.pool.Cell.{Cell}
use Rattle.path_pool.specs.Region.{blank, cell_at, list_of, walk, IsLive, is_live, is_above, cells_above, live_count, IsLinked, IsRegion, SameCells}
use Rattle.path_pool.proofs.RegionLemmas.{live_inside, cell_read, one_if, not_above, kind_same, lists_same, linked_same}

grow_count : (p : Cell → Bool) (xs : List Cell) (y : Cell) → count_by p (xs ++ y ∷ []) ≡ count_by p xs + one_if (p y)
grow_count p xs y = sum_by_push (λ c. one_if (p c)) xs y

grow_left : (xs : List Cell) (y : Cell) (k : ℕ) → k < length xs → cell_at (xs ++ y ∷ []) k ≡ cell_at xs k
grow_left xs y k l = get_or_append_left xs (y ∷ []) blank k l

grow_at : (xs : List Cell) (y : Cell) → cell_at (xs ++ y ∷ []) (length xs) ≡ y
grow_at xs y = get_or_at xs y [] blank (length xs) refl

-- a place past the cells
grow_past : (xs : List Cell) (y : Cell) (k : ℕ) → length xs < k → cell_at (xs ++ y ∷ []) k ≡ blank
grow_past xs y k l = get_or_past (xs ++ y ∷ []) k blank (omega (arith, length-append xs (y ∷ []), l))

pub grow_region : (xs : List Cell) (free spare limit : ℕ) (y : Cell) → IsRegion xs free spare limit → length xs < limit →
    y.count ≡ 0 → y.len ≡ spare + 1 → y.tail ≡ free → IsRegion (xs ++ y ∷ []) (length xs) (spare + 1) limit
grow_region xs free spare limit y r room y_dead y_len y_tail =
    let ys : List Cell = xs ++ y ∷ [] in
    let d : ℕ = length xs in
    let len : length ys ≡ length xs + 1 = length-append xs (y ∷ []) in
    let self : cell_at ys d ≡ y = grow_at xs y in
    let other : (j : ℕ) → j < length xs → cell_at ys j ≡ cell_at xs j = grow_left xs y in
    let above : (k : ℕ) → cells_above ys k ≡ cells_above xs k = λ k. omega (arith, grow_count (is_above k) xs y, ap one_if (not_above k y y_dead)) in
    let live : live_count ys ≡ live_count xs = omega (arith, grow_count is_live xs y, ap one_if (le-ltb 0 y.count (omega (arith, y_dead)))) in
    let old : (j : ℕ) → j < length ys → j ≢ d → j < length xs = λ j l n. omega (arith, l, n, len) in
    let none_above : cells_above xs d ≤ 0 = omega (arith, r.counted d, ap (λ (c : Cell). c.count) (get_or_past xs d blank (omega arith))) in
    record {
      linked = λ j l. elim (cases_eq j d) [
        | inl q ↦ subst (λ i. IsLinked ys i) (sym q) (record {
          some = omega (arith, y_len, ap (λ (c : Cell). c.len) self);
          inside = λ long. omega (arith, len, y_tail, ap (λ (c : Cell). c.tail) self, r.first_inside (omega (arith, long, y_len, ap (λ (c : Cell). c.len) self)));
          shorter = λ long.
              let s : 0 < spare = omega (arith, long, y_len, ap (λ (c : Cell). c.len) self) in
              ap (λ t. (cell_at ys t).len + 1) (ap (λ (c : Cell). c.tail) self ∙ y_tail) ∙ ap (λ (c : Cell). c.len + 1) (other free (r.first_inside s)) ∙ ap (λ n. n + 1) (r.first_len s) ∙ sym y_len ∙ sym (ap (λ (c : Cell). c.len) self);
          both_live = λ long p. absurd (omega (arith, p, y_dead, ap (λ (c : Cell). c.count) self));
          both_dead = λ long e.
              let s : 0 < spare = omega (arith, long, y_len, ap (λ (c : Cell). c.len) self) in
              ap (λ t. (cell_at ys t).count) (ap (λ (c : Cell). c.tail) self ∙ y_tail) ∙ ap (λ (c : Cell). c.count) (other free (r.first_inside s)) ∙ r.first_dead s;
          single_last = λ p _. absurd (omega (arith, p, y_dead, ap (λ (c : Cell). c.count) self));
          longer_last = λ p _. absurd (omega (arith, p, y_dead, ap (λ (c : Cell). c.count) self));
        })
        | inr n ↦ linked_same xs ys j (omega (arith, len)) (kind_same (cell_at xs j) (cell_at ys j) (other j (old j l n)))
            (λ long. kind_same (cell_at xs (cell_at xs j).tail) (cell_at ys (cell_at xs j).tail) (other (cell_at xs j).tail ((r.linked j (old j l n)).inside long)))
            (r.linked j (old j l n))
      ];
      counted = λ k. elim (cases_eq k d) [
        | inl q ↦ subst (λ i. cells_above ys i ≤ (cell_at ys i).count) (sym q) (omega (arith, above d, none_above))
        | inr n ↦ elim (cases_lt k d) [ inl l ↦ omega (arith, above k, r.counted k, ap (λ (c : Cell). c.count) (other k l)) | inr g ↦ omega (arith, above k, r.counted k, ap (λ (c : Cell). c.count) (get_or_past xs k blank g)) ]
      ];
      first_inside = λ s. omega (arith, len);
      first_dead = λ s. ap (λ (c : Cell). c.count) self ∙ y_dead;
      first_len = λ s. ap (λ (c : Cell). c.len) self ∙ y_len;
      dead_short = λ j l e. elim (cases_eq j d) [
        | inl q ↦ omega (arith, ap (λ t. (cell_at ys t).len) q, ap (λ (c : Cell). c.len) self, y_len)
        | inr n ↦ omega (arith, ap (λ (c : Cell). c.len) (other j (old j l n)), r.dead_short j (old j l n) (sym (ap (λ (c : Cell). c.count) (other j (old j l n))) ∙ e))
      ];
      dead_apart = λ i j l1 l2 e1 e2 e. elim (cases_eq i d) [
        | inl p ↦ elim (cases_eq j d) [
          | inl q ↦ p ∙ sym q
          | inr n ↦ absurd (omega (arith, e, ap (λ t. (cell_at ys t).len) p, ap (λ (c : Cell). c.len) self, y_len, ap (λ (c : Cell). c.len) (other j (old j l2 n)), r.dead_short j (old j l2 n) (sym (ap (λ (c : Cell). c.count) (other j (old j l2 n))) ∙ e2)))
        ]
        | inr m ↦ elim (cases_eq j d) [
          | inl q ↦ absurd (omega (arith, e, ap (λ t. (cell_at ys t).len) q, ap (λ (c : Cell). c.len) self, y_len, ap (λ (c : Cell). c.len) (other i (old i l1 m)), r.dead_short i (old i l1 m) (sym (ap (λ (c : Cell). c.count) (other i (old i l1 m))) ∙ e1)))
          | inr n ↦ r.dead_apart i j (old i l1 m) (old j l2 n) (sym (ap (λ (c : Cell). c.count) (other i (old i l1 m))) ∙ e1) (sym (ap (λ (c : Cell). c.count) (other j (old j l2 n))) ∙ e2)
              (sym (ap (λ (c : Cell). c.len) (other i (old i l1 m))) ∙ e ∙ ap (λ (c : Cell). c.len) (other j (old j l2 n)))
        ]
      ];
      all_counted = omega (arith, live, len, r.all_counted);
      within = omega (arith, len, room);
      limited = r.limited;
    }

pub grow_same : (xs : List Cell) (free spare limit : ℕ) (y : Cell) → IsRegion xs free spare limit → y.count ≡ 0 → SameCells xs (xs ++ y ∷ [])
grow_same xs free spare limit y r y_dead =
    let ys : List Cell = xs ++ y ∷ [] in
    let above : (k : ℕ) → cells_above ys k ≡ cells_above xs k = λ k. omega (arith, grow_count (is_above k) xs y, ap one_if (not_above k y y_dead)) in
    let counts : (k : ℕ) → (cell_at ys k).count ≡ (cell_at xs k).count = λ k. elim (cases_lt k (length xs)) [
      | inl l ↦ ap (λ (c : Cell). c.count) (grow_left xs y k l)
      | inr g ↦ elim (cases_eq k (length xs)) [
        | inl e ↦ ap (λ i. (cell_at ys i).count) e ∙ ap (λ (c : Cell). c.count) (grow_at xs y) ∙ y_dead ∙ sym (ap (λ (c : Cell). c.count) (get_or_past xs k blank g))
        | inr n ↦ ap (λ (c : Cell). c.count) (grow_past xs y k (omega (arith, g, n))) ∙ sym (ap (λ (c : Cell). c.count) (get_or_past xs k blank g))
      ]
    ] in
    record {
      holds = λ k. omega (arith, above k, counts k);
      counts = counts;
      stays_live = λ k a. omega (arith, a, counts k);
      was_live = λ k a. omega (arith, a, counts k);
      lists = lists_same (IsLive xs) xs ys
          (λ j p. kind_same (cell_at xs j) (cell_at ys j) (grow_left xs y j (live_inside xs j p)))
          (λ j p l. (r.linked j (live_inside xs j p)).both_live l p)
          (λ j p l. (r.linked j (live_inside xs j p)).shorter l);
      live = omega (arith, grow_count is_live xs y, ap one_if (le-ltb 0 y.count (omega (arith, y_dead))));
    }

pub same_then : (a b c : List Cell) → SameCells a b → SameCells b c → SameCells a c
same_then a b c p q = record {
  holds = λ k. q.holds k ∙ p.holds k;
  counts = λ k. q.counts k ∙ p.counts k;
  stays_live = λ k l. q.stays_live k (p.stays_live k l);
  was_live = λ k l. p.was_live k (q.was_live k l);
  lists = λ k l. q.lists k (p.stays_live k l) ∙ p.lists k l;
  live = q.live ∙ p.live;
}

pub same_self : (a : List Cell) → SameCells a a
same_self a = record { holds = λ k. refl; counts = λ k. refl; stays_live = λ k l. l; was_live = λ k l. l; lists = λ k l. refl; live = refl }

-- the first cell of a walk
pub walk_more : (cells : List Cell) (n i : ℕ) → 0 < n → walk cells n i ≡ (cell_at cells i).head ∷ walk cells (n - 1) (cell_at cells i).tail
walk_more cells zero i h = absurd (omega arith)
walk_more cells (suc n) i h =
    let e : n ≡ suc n - 1 = omega arith in
    ap (λ m. (cell_at cells i).head ∷ walk cells m (cell_at cells i).tail) e

-- a walk along a live cell's tails: n cells are left, from i
pub record IsWalking (cells : List Cell) (n i : ℕ) : Type 0 where
  pub live : 0 < n → IsLive cells i
  pub len : 0 < n → (cell_at cells i).len ≡ n

pub walking_start : (cells : List Cell) (i : ℕ) → IsLive cells i → IsWalking cells (cell_at cells i).len i
walking_start cells i a = record { live = λ _. a; len = λ _. refl }

walking_more : (cells : List Cell) (free spare limit n i : ℕ) → IsRegion cells free spare limit → 0 < n → IsWalking cells n i → IsWalking cells (n - 1) (cell_at cells i).tail
walking_more cells free spare limit n i r h w =
    let linked : IsLinked cells i = r.linked i (live_inside cells i (w.live h)) in
    record {
      live = λ p. linked.both_live (omega (arith, w.len h, p)) (w.live h);
      len = λ p. omega (arith, w.len h, p, linked.shorter (omega (arith, w.len h, p)));
    }

-- a step of a walk: the walk starts with the head of the cell v that is read, and goes on at its tail
pub walking_read : (cells : List Cell) (free spare limit n i : ℕ) (v : Cell) → IsRegion cells free spare limit → 0 < n → IsWalking cells n i → v ≡ get_or cells i v →
    (walk cells n i ≡ v.head ∷ walk cells (n - 1) v.tail) × IsWalking cells (n - 1) v.tail
walking_read cells free spare limit n i v r h w read =
    subst (λ (c : Cell). (walk cells n i ≡ c.head ∷ walk cells (n - 1) c.tail) × IsWalking cells (n - 1) c.tail) (sym (cell_read cells i v (live_inside cells i (w.live h)) read))
    (walk_more cells n i h, walking_more cells free spare limit n i r h w)

pub any_here : (all rest : List ℕ) (h number : ℕ) → all ≡ h ∷ rest → h ≡ number → list_any (λ x. eqb x number) all ≡ true
any_here all rest h number e same = ap (list_any (λ x. eqb x number)) e ∙ ap (λ b. b || list_any (λ x. eqb x number) rest) (eq-eqb h number same)

pub any_later : (all rest : List ℕ) (h number : ℕ) → all ≡ h ∷ rest → h ≢ number → list_any (λ x. eqb x number) all ≡ list_any (λ x. eqb x number) rest
any_later all rest h number e other = ap (list_any (λ x. eqb x number)) e ∙ ap (λ b. b || list_any (λ x. eqb x number) rest) (ne_eqb h number other)

-- the first number of a path is its cell's
pub first-list_of : (cells : List Cell) (i : ℕ) → 0 < (cell_at cells i).len → get_or (list_of cells i) 0 0 ≡ (cell_at cells i).head
first-list_of cells i h = ap (λ (ys : List ℕ). get_or ys 0 0) (walk_more cells (cell_at cells i).len i h)

last_or-walk : (cells : List Cell) (free spare limit : ℕ) → IsRegion cells free spare limit → (d n i : ℕ) → IsLive cells i → (cell_at cells i).len ≡ suc n →
    last_or d (walk cells (suc n) i) ≡ (cell_at cells i).last
last_or-walk cells free spare limit r d zero i a e = sym ((r.linked i (live_inside cells i a)).single_last a e)
last_or-walk cells free spare limit r d (suc n) i a e =
    let linked : IsLinked cells i = r.linked i (live_inside cells i a) in
    let long : 1 < (cell_at cells i).len = omega (arith, e) in
    last_or-walk cells free spare limit r (cell_at cells i).head n (cell_at cells i).tail (linked.both_live long a) (omega (arith, e, linked.shorter long))
    ∙ sym (linked.longer_last a long)

-- the last number of a live path stands in its cell
pub last_or-list_of : (cells : List Cell) (free spare limit i : ℕ) → IsRegion cells free spare limit → IsLive cells i → last_or 0 (list_of cells i) ≡ (cell_at cells i).last
last_or-list_of cells free spare limit i r a =
    let some : (cell_at cells i).len ≡ suc ((cell_at cells i).len - 1) = omega (arith, (r.linked i (live_inside cells i a)).some) in
    ap (λ n. last_or 0 (walk cells n i)) some ∙ last_or-walk cells free spare limit r 0 ((cell_at cells i).len - 1) i a some
