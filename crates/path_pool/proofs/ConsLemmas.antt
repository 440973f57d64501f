-- What `cons` and `lengthen` leave.
use Rattle.std.proofs.Common.{◌≡◌, ◌≢◌, ◌⊎◌, ℕ, suc, ◌+◌, ◌-◌, ◌<◌, ◌≤◌, List, [], ◌∷◌, length, get_or, set, refl, ap, sym, ◌∙◌, subst, arith, inl, inr}
use Rattle.std.proofs.lemmas.Bool.{cases_eq}
use Rattle.path_pool.specs.declared.pool.Cell.{Cell}
use Rattle.path_pool.specs.Region.{cell_at, first_cell, with_count, walk, list_of, live_count, IsLive, cells_above, holds_of, IsRegion, CanFollow, GainsCell, PassesHold, GainsCells, GainsHold, SameCells}
use Rattle.path_pool.proofs.RegionLemmas.{SameKind, kind_same, at_same, at_other, cell_read, live_inside, len_le_live, take_above_other, take_above_tail, take_lists_at}
use Rattle.path_pool.proofs.HoldLemmas.{rehold_kind, rehold_region, rehold_gains}

-- a cell put on the first free place
take_new : (xs : List Cell) (free spare limit : ℕ) (y : Cell) (rest : List ℕ) → IsRegion xs free spare limit → 0 < spare → CanFollow xs y →
    walk (set xs free y) (y.len - 1) y.tail ≡ rest →
    list_of (set xs free y) free ≡ y.head ∷ rest
take_new xs f spare limit y rest r s w e =
    let inside : f < length xs = r.first_inside s in
    let self : cell_at (set xs f y) f ≡ y = at_same xs f y inside in
    let some : y.len ≡ suc (y.len - 1) = omega (arith, w.some) in
    ap (λ (c : Cell). walk (set xs f y) c.len f) self
    ∙ ap (λ n. walk (set xs f y) n f) some
    ∙ ap (λ (c : Cell). c.head ∷ walk (set xs f y) (y.len - 1) c.tail) self
    ∙ ap (λ t. y.head ∷ t) e

tail_apart : (xs : List Cell) (free spare limit : ℕ) (y : Cell) → IsRegion xs free spare limit → 0 < spare → CanFollow xs y → 1 < y.len → y.tail ≢ free
tail_apart xs f spare limit y r s w l e = omega (arith, w.live l, r.first_dead s, ap (λ t. (cell_at xs t).count) e)

-- with no tail
pub gains_single : (xs : List Cell) (free spare limit : ℕ) (y : Cell) → IsRegion xs free spare limit → 0 < spare → CanFollow xs y → y.len ≡ 1 →
    GainsCell xs (set xs free y) free (y.head ∷ [])
gains_single xs f spare limit y r s w one =
    let inside : f < length xs = r.first_inside s in
    let dead : (cell_at xs f).count ≡ 0 = r.first_dead s in
    let self : cell_at (set xs f y) f ≡ y = at_same xs f y inside in
    let above : (k : ℕ) → cells_above (set xs f y) k ≡ cells_above xs k = λ k. take_above_other xs f k y inside dead (λ l _. omega (arith, l, one)) in
    let none : y.len - 1 ≡ 0 = omega (arith, one) in
    record {
      fresh = dead;
      live = omega (arith, w.held, ap (λ (c : Cell). c.count) self);
      list = take_new xs f spare limit y [] r s w (ap (λ n. walk (set xs f y) n y.tail) none);
      one_hold = omega (arith, w.held, ap (λ (c : Cell). c.count) self, above f, r.counted f, dead);
      other_holds = λ k n. omega (arith, above k, ap (λ (c : Cell). c.count) (at_other xs f k y n));
      counts = λ k. elim (cases_eq k f) [
        | inl e ↦ omega (arith, w.held, ap (λ (c : Cell). c.count) self, ap (λ i. (cell_at (set xs f y) i).count) e)
        | inr n ↦ omega (arith, ap (λ (c : Cell). c.count) (at_other xs f k y n))
      ];
      stays_live = λ k a. elim (cases_eq k f) [
        | inl e ↦ absurd (omega (arith, a, dead, ap (λ t. (cell_at xs t).count) e))
        | inr n ↦ omega (arith, a, ap (λ (c : Cell). c.count) (at_other xs f k y n))
      ];
      was_live = λ k n a. omega (arith, a, ap (λ (c : Cell). c.count) (at_other xs f k y n));
      lists = take_lists_at xs f spare limit y r s;
    }

-- the path over a live one is no longer than a cell can say
pub longer_fits : (xs : List Cell) (free spare limit t : ℕ) (v : Cell) → IsRegion xs free spare limit → IsLive xs t → v ≡ get_or xs t v → v.len + 1 < 4294967296
longer_fits xs free spare limit t v r live read =
    let small : (cell_at xs t).len ≤ live_count xs = len_le_live xs free spare limit t r live in
    let len : v.len ≡ (cell_at xs t).len = ap (λ (c : Cell). c.len) (cell_read xs t v (live_inside xs t live) read) in
    omega (arith, small, len, r.all_counted, r.within, r.limited)

-- the cell of a new path that starts with h, over the tail t, whose cell is v
abbrev pub over : ℕ → ℕ → Cell → Cell
over h t v = first_cell h t (v.len + 1) v.last

-- what is read of a path is like its cell
pub read_kind : (xs : List Cell) (t : ℕ) (v : Cell) → IsLive xs t → v ≡ get_or xs t v → SameKind v (cell_at xs t)
read_kind xs t v a read = kind_same v (cell_at xs t) (sym (cell_read xs t v (live_inside xs t a) read))

-- over a path that passes a hold on: the new cell on the free place
module _ (xs : List Cell) (free spare limit t h : ℕ) (v : Cell) (r : IsRegion xs free spare limit) (held : 0 < holds_of xs t) (kind : SameKind v (cell_at xs t)) where
  alive : IsLive xs t
  alive = omega (arith, held)

  long : 1 < v.len + 1
  long = omega (arith, kind.len, (r.linked t (live_inside xs t alive)).some)

  pub follows_held : CanFollow xs (over h t v)
  follows_held = record {
    held = refl;
    some = omega arith;
    live = λ _. alive;
    free_hold = λ _. omega (arith, held);
    shorter = λ _. omega (arith, kind.len);
    single_last = λ one. absurd (omega (arith, one, long));
    longer_last = λ _. sym kind.last;
  }

  pub passes_over : 0 < spare → PassesHold xs (set xs free (over h t v)) t free (h ∷ list_of xs t)
  passes_over s =
      let y : Cell = over h t v in
      let inside : free < length xs = r.first_inside s in
      let dead : (cell_at xs free).count ≡ 0 = r.first_dead s in
      let apart : t ≢ free = tail_apart xs free spare limit y r s follows_held long in
      let zs : List Cell = set xs free y in
      let self : cell_at zs free ≡ y = at_same xs free y inside in
      let kept : (k : ℕ) → k ≢ free → cell_at zs k ≡ cell_at xs k = λ k o. at_other xs free k y o in
      let list_t : list_of zs t ≡ list_of xs t = take_lists_at xs free spare limit y r s t alive in
      let above : (k : ℕ) → k ≢ t → cells_above zs k ≡ cells_above xs k = λ k o. take_above_other xs free k y inside dead (λ _ e. o (sym e)) in
      let above_t : cells_above zs t ≡ cells_above xs t + 1 = take_above_tail xs free y inside dead (omega arith) long in
      let less : y.len - 1 ≡ (cell_at zs t).len = omega (arith, kind.len, ap (λ (c : Cell). c.len) (kept t apart)) in
      record {
        fresh = dead;
        live = omega (arith, ap (λ (c : Cell). c.count) self);
        list = take_new xs free spare limit y (list_of xs t) r s follows_held (ap (λ m. walk zs m t) less ∙ list_t);
        one_hold = omega (arith, ap (λ (c : Cell). c.count) self, above free (λ e. apart (sym e)), r.counted free, dead);
        one_less = omega (arith, above_t, ap (λ (c : Cell). c.count) (kept t apart), held);
        other_holds = λ k o p. omega (arith, above k p, ap (λ (c : Cell). c.count) (kept k o));
        one_count = ap (λ (c : Cell). c.count) self;
        counts = λ k o. ap (λ (c : Cell). c.count) (kept k o);
        stays_live = λ k b. elim (cases_eq k free) [
          | inl e ↦ absurd (omega (arith, b, dead, ap (λ i. (cell_at xs i).count) e))
          | inr o ↦ omega (arith, b, ap (λ (c : Cell). c.count) (kept k o))
        ];
        was_live = λ k o b. omega (arith, b, ap (λ (c : Cell). c.count) (kept k o));
        lists = take_lists_at xs free spare limit y r s;
      }

-- a hold that a path has gained passes on to a new path: each hold but the new one is as before
passes_gained : (old xs new : List Cell) (from id : ℕ) (numbers : List ℕ) → holds_of xs from ≡ holds_of old from + 1 → ((k : ℕ) → k ≢ from → holds_of xs k ≡ holds_of old k) →
    ((k : ℕ) → (cell_at xs k).count ≤ (cell_at old k).count + 1) → ((k : ℕ) → IsLive old k → IsLive xs k) → ((k : ℕ) → IsLive old k → list_of xs k ≡ list_of old k) →
    PassesHold xs new from id numbers → GainsCells old new id numbers
passes_gained old xs new from id numbers one_more other_holds counts stays_live lists p = record {
  fresh = dead (cases_eq (cell_at old id).count 0);
  live = p.live;
  list = p.list;
  one_hold = p.one_hold;
  other_holds = λ k o. elim (cases_eq k from) [
    | inl e ↦ subst (λ i. holds_of new i ≡ holds_of old i) (sym e) (omega (arith, p.one_less, one_more))
    | inr n ↦ p.other_holds k o n ∙ other_holds k n
  ];
  counts = λ k. elim (cases_eq k id) [
    | inl e ↦ omega (arith, p.one_count, ap (λ i. (cell_at new i).count) e)
    | inr n ↦ omega (arith, p.counts k n, counts k)
  ];
  stays_live = λ k l. p.stays_live k (stays_live k l);
  lists = λ k l. p.lists k (stays_live k l) ∙ lists k l;
}
  where
    -- who was not live in between was not live before
    dead : ((cell_at old id).count ≡ 0) ⊎ ((cell_at old id).count ≢ 0) → (cell_at old id).count ≡ 0
    dead (inl none) = none
    dead (inr some) = absurd (omega (arith, p.fresh, stays_live id (omega (arith, some))))

-- new cells of which no other is live are one new path of one cell
gains_alone : (old new : List Cell) (id : ℕ) (numbers : List ℕ) → GainsCells old new id numbers → ((k : ℕ) → k ≢ id → IsLive new k → IsLive old k) → GainsCell old new id numbers
gains_alone old new id numbers g was_live = record { fresh = g.fresh; live = g.live; list = g.list; one_hold = g.one_hold; other_holds = g.other_holds; counts = g.counts; stays_live = g.stays_live; was_live = was_live; lists = g.lists }

-- a new path over a tail: the tail gains a hold, which it passes on
module _ (xs : List Cell) (free spare limit t h : ℕ) (v : Cell) (r : IsRegion xs free spare limit) (a : IsLive xs t) (read : v ≡ get_or xs t v) where
  counted : v.count + 1 ≡ (cell_at xs t).count + 1
  counted = ap (λ (c : Cell). c.count + 1) (cell_read xs t v (live_inside xs t a) read)

  some_held : 0 < v.count + 1
  some_held = omega arith

  gained : GainsHold xs (with_count xs t (v.count + 1)) t
  gained = rehold_gains xs free spare limit t (v.count + 1) r a counted

  region : IsRegion (with_count xs t (v.count + 1)) free spare limit
  region = rehold_region xs free spare limit t (v.count + 1) r a some_held (omega (arith, counted, r.counted t))

  one_held : 0 < holds_of (with_count xs t (v.count + 1)) t
  one_held = (let more = gained.one_more in omega (arith, more))

  kind_held : SameKind v (cell_at (with_count xs t (v.count + 1)) t)
  kind_held = subst (λ (c : Cell). SameKind c (cell_at (with_count xs t (v.count + 1)) t)) (sym (cell_read xs t v (live_inside xs t a) read)) (rehold_kind xs t (v.count + 1) t a some_held)

  pub follows_over : (ys : List Cell) → ys ≡ with_count xs t (v.count + 1) → CanFollow ys (over h t v)
  follows_over ys e = subst (λ zs. CanFollow zs (over h t v)) (sym e) (follows_held (with_count xs t (v.count + 1)) free spare limit t h v region one_held kind_held)

  pub gains_over : 0 < spare → GainsCell xs (set (with_count xs t (v.count + 1)) free (over h t v)) free (h ∷ list_of xs t)
  gains_over s =
      let ys : List Cell = with_count xs t (v.count + 1) in
      let g = gained in
      let p : PassesHold ys (set ys free (over h t v)) t free (h ∷ list_of xs t) =
      subst (PassesHold ys (set ys free (over h t v)) t free) (ap (λ ns. h ∷ ns) (g.lists t a)) (passes_over ys free spare limit t h v region one_held kind_held s) in
      gains_alone xs (set ys free (over h t v)) free (h ∷ list_of xs t)
      (passes_gained xs ys (set ys free (over h t v)) t free (h ∷ list_of xs t) g.one_more g.other_holds g.counts g.stays_live g.lists p) (λ k o b. g.was_live k (p.was_live k o b))

-- a new path under its place's and its cells' other names
pub gains_there : (old xs new : List Cell) (at id : ℕ) (numbers : List ℕ) → new ≡ xs → id ≡ at → GainsCell old xs at numbers → GainsCell old new id numbers
gains_there old xs new at id numbers cells which g = subst (λ zs. GainsCell old zs id numbers) (sym cells) (subst (λ i. GainsCell old xs i numbers) (sym which) g)

-- a path that is made after cells that are not live have changed
pub gains_after : (old xs new : List Cell) (id : ℕ) (numbers : List ℕ) → SameCells old xs → GainsCell xs new id numbers → GainsCell old new id numbers
gains_after old xs new id numbers s g = record {
  fresh = sym (s.counts id) ∙ g.fresh;
  live = g.live;
  list = g.list;
  one_hold = g.one_hold;
  other_holds = λ k n. g.other_holds k n ∙ s.holds k;
  counts = λ k. omega (arith, g.counts k, s.counts k);
  stays_live = λ k l. g.stays_live k (s.stays_live k l);
  was_live = λ k n l. s.was_live k (g.was_live k n l);
  lists = λ k l. g.lists k (s.stays_live k l) ∙ s.lists k l;
}

-- a hold that is passed on after cells that are not live have changed
pub passes_after : (old xs new : List Cell) (from id : ℕ) (numbers : List ℕ) → SameCells old xs → PassesHold xs new from id numbers → PassesHold old new from id numbers
passes_after old xs new from id numbers s p = record {
  fresh = sym (s.counts id) ∙ p.fresh;
  live = p.live;
  list = p.list;
  one_hold = p.one_hold;
  one_less = p.one_less ∙ s.holds from;
  other_holds = λ k n m. p.other_holds k n m ∙ s.holds k;
  one_count = p.one_count;
  counts = λ k n. p.counts k n ∙ s.counts k;
  stays_live = λ k l. p.stays_live k (s.stays_live k l);
  was_live = λ k n l. s.was_live k (p.was_live k n l);
  lists = λ k l. p.lists k (s.stays_live k l) ∙ s.lists k l;
}

-- a new path of one cell is one of new cells
pub gains_one : (old new : List Cell) (id : ℕ) (numbers : List ℕ) → GainsCell old new id numbers → GainsCells old new id numbers
gains_one old new id numbers g = record { fresh = g.fresh; live = g.live; list = g.list; one_hold = g.one_hold; other_holds = g.other_holds; counts = g.counts; stays_live = g.stays_live; lists = g.lists }

-- a new path that is made longer is a new path
pub gains_longer : (old xs new : List Cell) (id longer h : ℕ) (numbers : List ℕ) → GainsCells old xs id numbers → PassesHold xs new id longer (h ∷ list_of xs id) → GainsCells old new longer (h ∷ numbers)
gains_longer old xs new id longer h numbers g p =
    passes_gained old xs new id longer (h ∷ numbers) (omega (arith, g.one_hold, g.fresh)) g.other_holds g.counts g.stays_live g.lists
    (subst (PassesHold xs new id longer) (ap (λ ns. h ∷ ns) g.list) p)
