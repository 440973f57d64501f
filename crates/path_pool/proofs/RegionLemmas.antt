-- What a write to one cell does to the lists, the holds and the soundness of a region.
use Rattle.std.proofs.Common.{◌≡◌, ◌≢◌, ℕ, zero, suc, ◌+◌, ◌-◌, ◌<◌, ◌≤◌, Bool, true, false, ◌&&◌, ltb, leb, eqb, cond, List, [], ◌∷◌, length, get_or, set, refl, ap, sym, ◌∙◌, subst, arith, length-set, get_or-set_same, get_or-set_other}
use Rattle.std.specs.List.{count_by}
use Rattle.std.proofs.lemmas.List.Sums.{sum_by-set, sum_by-cons, get_or-le-sum_by, sum_by-le-sum_by}
use Rattle.std.proofs.lemmas.Bool.{cases_eq, cases_lt, lt-ltb, le-ltb, eq-eqb, ltb-true, eqb-true, and_parts, false_from_ne_true, false≢true, both_ways, and_from, and_right, le-leb, lt-leb, leb-true}
use Rattle.std.proofs.lemmas.List.{get_or_past, get_or_default}
use Rattle.std.proofs.Common.{inl, inr}
use Rattle.path_pool.specs.declared.pool.Cell.{Cell}
use Rattle.path_pool.specs.Region.{blank, cell_at, walk, list_of, IsLive, is_live, is_above, cells_above, live_count, IsLinked, IsRegion, CanFollow}

pub length-walk : (cells : List Cell) (n i : ℕ) → length (walk cells n i) ≡ n
length-walk cells zero i = refl
length-walk cells (suc n) i = ap suc (length-walk cells n (cell_at cells i).tail)

-- where a write keeps heads and tails along the walk, it keeps the walk
pub walk_same :
    (P : ℕ → Type 0) (xs ys : List Cell) →
    ((j : ℕ) → P j → (cell_at ys j).head ≡ (cell_at xs j).head) →
    ((j : ℕ) → P j → (cell_at ys j).tail ≡ (cell_at xs j).tail) →
    ((j : ℕ) → P j → 1 < (cell_at xs j).len → P (cell_at xs j).tail) →
    ((j : ℕ) → P j → 1 < (cell_at xs j).len → (cell_at xs (cell_at xs j).tail).len + 1 ≡ (cell_at xs j).len) →
    (n i : ℕ) → P i → n ≡ (cell_at xs i).len → walk ys n i ≡ walk xs n i
walk_same P xs ys heads tails next shorter zero i p e = refl
walk_same P xs ys heads tails next shorter (suc zero) i p e = ap (λ h. h ∷ []) (heads i p)
walk_same P xs ys heads tails next shorter (suc (suc n)) i p e =
    let long : 1 < (cell_at xs i).len = omega arith in
    let less : suc n ≡ (cell_at xs (cell_at xs i).tail).len = omega (arith, shorter i p long) in
    let rest : walk ys (suc n) (cell_at xs i).tail ≡ walk xs (suc n) (cell_at xs i).tail =
    walk_same P xs ys heads tails next shorter (suc n) (cell_at xs i).tail (next i p long) less in
    let moved : walk ys (suc n) (cell_at ys i).tail ≡ walk xs (suc n) (cell_at xs i).tail =
    ap (λ t. walk ys (suc n) t) (tails i p) ∙ rest in
    ap (λ h. h ∷ walk ys (suc n) (cell_at ys i).tail) (heads i p) ∙ ap (λ t. (cell_at xs i).head ∷ t) moved

-- 1 where a test passes
abbrev pub one_if : Bool → ℕ
one_if b = cond b 1 0

one_if-le : (a b : Bool) → (a ≡ true → b ≡ true) → one_if a ≤ one_if b
one_if-le false b h = omega arith
one_if-le true b h = rw (h refl) (omega arith)

pub count-set : (p : Cell → Bool) (xs : List Cell) (i : ℕ) (y : Cell) → i < length xs →
    count_by p (set xs i y) + one_if (p (cell_at xs i)) ≡ count_by p xs + one_if (p y)
count-set p xs i y l = sum_by-set (λ c. one_if (p c)) xs i y blank l

pub count_mono : (p q : Cell → Bool) → ((c : Cell) → p c ≡ true → q c ≡ true) → (xs : List Cell) → count_by p xs ≤ count_by q xs
count_mono p q h xs = sum_by-le-sum_by (λ c. one_if (p c)) (λ c. one_if (q c)) xs (λ c. one_if-le (p c) (q c) (h c))

-- a test that one more element passes counts one more
pub count_more :
    (p q : Cell → Bool) → ((c : Cell) → p c ≡ true → q c ≡ true) → p blank ≡ false → q blank ≡ false →
    (xs : List Cell) (i : ℕ) → i < length xs → p (cell_at xs i) ≡ false → q (cell_at xs i) ≡ true →
    count_by p xs + 1 ≤ count_by q xs
count_more p q h pb qb xs i l a b =
    let s : List Cell = set xs i blank in
    let ep : count_by p s + one_if (p (cell_at xs i)) ≡ count_by p xs + one_if (p blank) = count-set p xs i blank l in
    let eq : count_by q s + one_if (q (cell_at xs i)) ≡ count_by q xs + one_if (q blank) = count-set q xs i blank l in
    let m : count_by p s ≤ count_by q s = count_mono p q h s in
    let e1 : count_by p s ≡ count_by p xs = omega (arith, ep, ap one_if a, ap one_if pb) in
    let e2 : count_by q s + 1 ≡ count_by q xs = omega (arith, eq, ap one_if b, ap one_if qb) in
    omega (arith, m, e1, e2)

-- where none passes, a given one does not
pub count_none : (p : Cell → Bool) (xs : List Cell) (i : ℕ) → i < length xs → count_by p xs ≡ 0 → p (cell_at xs i) ≡ false
count_none p xs i l e =
    let small : one_if (p (cell_at xs i)) ≤ count_by p xs = get_or-le-sum_by (λ c. one_if (p c)) xs i blank l in
    none (p (cell_at xs i)) (omega (arith, small, e))
  where
    none : (b : Bool) → one_if b ≤ 0 → b ≡ false
    none false h = refl
    none true h = absurd (omega arith)

pub length-list_of : (cells : List Cell) (i : ℕ) → length (list_of cells i) ≡ (cell_at cells i).len
length-list_of cells i = length-walk cells (cell_at cells i).len i

pub at_same : (xs : List Cell) (i : ℕ) (y : Cell) → i < length xs → cell_at (set xs i y) i ≡ y
at_same xs i y l = get_or-set_same xs i y blank l

pub at_other : (xs : List Cell) (i j : ℕ) (y : Cell) → j ≢ i → cell_at (set xs i y) j ≡ cell_at xs j
at_other xs i j y n = get_or-set_other xs i j y blank n

-- a live cell stands in the region
pub live_inside : (xs : List Cell) (i : ℕ) → IsLive xs i → i < length xs
live_inside xs i h =
    elim (cases_lt i (length xs)) [
      | inl l ↦ l
      | inr g ↦ absurd (omega (arith, h, ap (λ (c : Cell). c.count) (get_or_past xs i blank g)))
    ]

-- y stands for x: only the number of holds may differ, and not in being 0
pub record SameKind (x y : Cell) : Type 0 where
  pub head : y.head ≡ x.head
  pub tail : y.tail ≡ x.tail
  pub len : y.len ≡ x.len
  pub last : y.last ≡ x.last
  pub alive : 0 < x.count → 0 < y.count
  pub dead : 0 < y.count → 0 < x.count

pub kind_same : (x y : Cell) → y ≡ x → SameKind x y
kind_same x y e = record {
  head = ap (λ (c : Cell). c.head) e;
  tail = ap (λ (c : Cell). c.tail) e;
  len = ap (λ (c : Cell). c.len) e;
  last = ap (λ (c : Cell). c.last) e;
  alive = λ h. omega (arith, h, ap (λ (c : Cell). c.count) e);
  dead = λ h. omega (arith, h, ap (λ (c : Cell). c.count) e);
}

-- the list of each live cell stays where the cells on its way keep their kind
pub lists_same :
    (P : ℕ → Type 0) (xs ys : List Cell) →
    ((j : ℕ) → P j → SameKind (cell_at xs j) (cell_at ys j)) →
    ((j : ℕ) → P j → 1 < (cell_at xs j).len → P (cell_at xs j).tail) →
    ((j : ℕ) → P j → 1 < (cell_at xs j).len → (cell_at xs (cell_at xs j).tail).len + 1 ≡ (cell_at xs j).len) →
    (i : ℕ) → P i → list_of ys i ≡ list_of xs i
lists_same P xs ys same next shorter i p =
    ap (λ n. walk ys n i) (same i p).len
    ∙ walk_same P xs ys (λ j q. (same j q).head) (λ j q. (same j q).tail) next shorter (cell_at xs i).len i p refl

-- a cell that keeps its kind, and whose tail keeps its kind, stays linked
pub linked_same :
    (xs ys : List Cell) (j : ℕ) → length xs ≤ length ys →
    SameKind (cell_at xs j) (cell_at ys j) →
    (1 < (cell_at xs j).len → SameKind (cell_at xs (cell_at xs j).tail) (cell_at ys (cell_at xs j).tail)) →
    IsLinked xs j → IsLinked ys j
linked_same xs ys j le k f h =
    let long : 1 < (cell_at ys j).len → 1 < (cell_at xs j).len = λ l. omega (arith, l, k.len) in
    record {
      some = omega (arith, h.some, k.len);
      inside = λ l. omega (arith, k.tail, h.inside (long l), le);
      shorter = λ l. ap (λ t. (cell_at ys t).len + 1) k.tail ∙ ap (λ n. n + 1) (f (long l)).len ∙ h.shorter (long l) ∙ sym k.len;
      both_live = λ l a. subst (λ t. 0 < (cell_at ys t).count) (sym k.tail) ((f (long l)).alive (h.both_live (long l) (k.dead a)));
      both_dead = λ l a.
          let x_dead : (cell_at xs j).count ≡ 0 = dead_from (cell_at xs j).count (λ q. omega (arith, a, k.alive q)) in
          let t_dead : (cell_at xs (cell_at xs j).tail).count ≡ 0 = h.both_dead (long l) x_dead in
          ap (λ t. (cell_at ys t).count) k.tail ∙ dead_from (cell_at ys (cell_at xs j).tail).count (λ q. omega (arith, t_dead, (f (long l)).dead q));
      single_last = λ a one. k.last ∙ h.single_last (k.dead a) (sym k.len ∙ one) ∙ sym k.head;
      longer_last = λ a l. k.last ∙ h.longer_last (k.dead a) (long l) ∙ sym (f (long l)).last ∙ sym (ap (λ t. (cell_at ys t).last) k.tail);
    }
  where
    dead_from : (n : ℕ) → (0 < n → ⊥) → n ≡ 0
    dead_from n h = elim (cases_lt 0 n) [ inl l ↦ absurd (h l) | inr g ↦ omega (arith, g) ]

-- where some pass, one of them stands somewhere
some_cons : (p : Cell → Bool) (x : Cell) (xs : List Cell) (b : Bool) → p x ≡ b → 0 < count_by p (x ∷ xs) →
    (0 < count_by p xs → (j : ℕ) × (j < length xs) × (p (cell_at xs j) ≡ true)) → (j : ℕ) × (j < length (x ∷ xs)) × (p (cell_at (x ∷ xs) j) ≡ true)
some_cons p x xs true e h rest = (zero, omega arith, e)
some_cons p x xs false e h rest =
    let r : (j : ℕ) × (j < length xs) × (p (cell_at xs j) ≡ true) = rest (omega (arith, h, sum_by-cons (λ c. one_if (p c)) x xs, ap one_if e)) in
    (suc r.0, omega (arith, r.1), r.2)

pub count_some : (p : Cell → Bool) (xs : List Cell) → 0 < count_by p xs → (j : ℕ) × (j < length xs) × (p (cell_at xs j) ≡ true)
count_some p [] h = absurd (omega arith)
count_some p (x ∷ xs) h = some_cons p x xs (p x) refl h (count_some p xs)

-- what a read gave is the cell
pub cell_read : (xs : List Cell) (i : ℕ) (v : Cell) → i < length xs → v ≡ get_or xs i v → v ≡ cell_at xs i
cell_read xs i v l e = e ∙ get_or_default xs i v blank l

pub zero_or : (n : ℕ) → (0 < n → ⊥) → n ≡ 0
zero_or n h = elim (cases_lt 0 n) [ inl l ↦ absurd (h l) | inr g ↦ omega (arith, g) ]

pub not_above : (k : ℕ) (c : Cell) → c.count ≡ 0 → is_above k c ≡ false
not_above k c e = ap (λ t. (t && ltb 1 c.len) && eqb c.tail k) (le-ltb 0 c.count (omega arith))

pub above_is : (k : ℕ) (c : Cell) → 0 < c.count → 1 < c.len → c.tail ≡ k → is_above k c ≡ true
above_is k c a l e = rw (lt-ltb 0 c.count a, lt-ltb 1 c.len l, eq-eqb c.tail k e) refl

pub not_above_other : (k : ℕ) (c : Cell) → (1 < c.len → c.tail ≡ k → ⊥) → is_above k c ≡ false
not_above_other k c h = false_from_ne_true (is_above k c) (λ e.
    let both : ((ltb 0 c.count && ltb 1 c.len) ≡ true) × (eqb c.tail k ≡ true) = and_parts (ltb 0 c.count && ltb 1 c.len) (eqb c.tail k) e in
    let front : (ltb 0 c.count ≡ true) × (ltb 1 c.len ≡ true) = and_parts (ltb 0 c.count) (ltb 1 c.len) both.0 in
    h (ltb-true 1 c.len front.1) (eqb-true c.tail k both.1))

-- a cell is taken from the front of the free ones, and put over the tail t

pub take_above_other : (xs : List Cell) (f k : ℕ) (y : Cell) → f < length xs → (cell_at xs f).count ≡ 0 → (1 < y.len → y.tail ≡ k → ⊥) →
    cells_above (set xs f y) k ≡ cells_above xs k
take_above_other xs f k y l d h =
    omega (arith, count-set (is_above k) xs f y l, ap one_if (not_above k (cell_at xs f) d), ap one_if (not_above_other k y h))

pub take_above_tail : (xs : List Cell) (f : ℕ) (y : Cell) → f < length xs → (cell_at xs f).count ≡ 0 → 0 < y.count → 1 < y.len →
    cells_above (set xs f y) y.tail ≡ cells_above xs y.tail + 1
take_above_tail xs f y l d a long =
    omega (arith, count-set (is_above y.tail) xs f y l, ap one_if (not_above y.tail (cell_at xs f) d), ap one_if (above_is y.tail y a long refl))

take_counted : (xs : List Cell) (f spare limit : ℕ) (y : Cell) (k : ℕ) → IsRegion xs f (suc spare) limit → CanFollow xs y → k ≢ f →
    cells_above (set xs f y) k ≤ (cell_at (set xs f y) k).count
take_counted xs f spare limit y k r w n =
    let inside : f < length xs = r.first_inside (omega arith) in
    let dead : (cell_at xs f).count ≡ 0 = r.first_dead (omega arith) in
    let kept : (cell_at (set xs f y) k).count ≡ (cell_at xs k).count = ap (λ (c : Cell). c.count) (at_other xs f k y n) in
    let no_tail : (1 < y.len → y.tail ≡ k → ⊥) → cells_above (set xs f y) k ≤ (cell_at (set xs f y) k).count =
    λ h. omega (arith, take_above_other xs f k y inside dead h, r.counted k, kept) in
    elim (cases_lt 1 y.len) [
      | inr short ↦ no_tail (λ long e. omega (arith, short, long))
      | inl long ↦ elim (cases_eq y.tail k) [
        | inr o ↦ no_tail (λ _ e. o e)
        | inl e ↦ omega (
          arith,
          subst (λ t. cells_above (set xs f y) t ≡ cells_above xs t + 1) e (take_above_tail xs f y inside dead (omega (arith, w.held)) long),
          subst (λ t. cells_above xs t < (cell_at xs t).count) e (w.free_hold long),
          kept,
        )
      ]
    ]

pub take_region : (xs : List Cell) (free spare limit : ℕ) (y : Cell) → IsRegion xs free (suc spare) limit → CanFollow xs y →
    IsRegion (set xs free y) (cell_at xs free).tail spare limit
take_region xs f spare limit y r w =
    let inside : f < length xs = r.first_inside (omega arith) in
    let dead : (cell_at xs f).count ≡ 0 = r.first_dead (omega arith) in
    let flen : (cell_at xs f).len ≡ suc spare = r.first_len (omega arith) in
    let len : length (set xs f y) ≡ length xs = length-set xs f y in
    let self : cell_at (set xs f y) f ≡ y = at_same xs f y inside in
    let other : (j : ℕ) → j ≢ f → cell_at (set xs f y) j ≡ cell_at xs j = λ j n. at_other xs f j y n in
    let tail_apart : 1 < y.len → y.tail ≢ f = λ l e. omega (arith, w.live l, dead, ap (λ t. (cell_at xs t).count) e) in
    let live : live_count (set xs f y) ≡ live_count xs + 1 =
    omega (arith, count-set is_live xs f y inside, ap one_if (lt-ltb 0 y.count (omega (arith, w.held))), ap one_if (le-ltb 0 (cell_at xs f).count (omega (arith, dead)))) in
    let was_dead : (j : ℕ) → (cell_at (set xs f y) j).count ≡ 0 → (j ≢ f) × ((cell_at xs j).count ≡ 0) = λ j e.
    elim (cases_eq j f) [
      | inl q ↦ absurd (omega (arith, e, w.held, ap (λ (c : Cell). c.count) self, ap (λ t. (cell_at (set xs f y) t).count) q))
      | inr n ↦ (n, omega (arith, e, ap (λ (c : Cell). c.count) (other j n)))
    ] in
    let next_apart : (j : ℕ) → j < length xs → j ≢ f → 1 < (cell_at xs j).len → (cell_at xs j).tail ≢ f = λ j l n long e.
    let tlen : (cell_at xs f).len + 1 ≡ (cell_at xs j).len = subst (λ t. (cell_at xs t).len + 1 ≡ (cell_at xs j).len) e ((r.linked j l).shorter long) in
    elim (cases_lt 0 (cell_at xs j).count) [
      | inl a ↦ omega (arith, dead, ap (λ t. (cell_at xs t).count) e, (r.linked j l).both_live long a)
      | inr g ↦ omega (arith, tlen, flen, r.dead_short j l (omega (arith, g)))
    ] in
    record {
      linked = λ j l. elim (cases_eq j f) [
        | inl q ↦ subst (λ i. IsLinked (set xs f y) i) (sym q) (record {
          some = omega (arith, w.some, ap (λ (c : Cell). c.len) self);
          inside = λ long. omega (arith, len, ap (λ (c : Cell). c.tail) self, live_inside xs y.tail (w.live (omega (arith, long, ap (λ (c : Cell). c.len) self))));
          shorter = λ long.
              let l2 : 1 < y.len = omega (arith, long, ap (λ (c : Cell). c.len) self) in
              ap (λ t. (cell_at (set xs f y) t).len + 1) (ap (λ (c : Cell). c.tail) self) ∙ ap (λ (c : Cell). c.len + 1) (other y.tail (tail_apart l2)) ∙ w.shorter l2 ∙ sym (ap (λ (c : Cell). c.len) self);
          both_live = λ long a.
              let l2 : 1 < y.len = omega (arith, long, ap (λ (c : Cell). c.len) self) in
              subst (λ t. 0 < (cell_at (set xs f y) t).count) (sym (ap (λ (c : Cell). c.tail) self))
              (subst (λ (c : Cell). 0 < c.count) (sym (other y.tail (tail_apart l2))) (w.live l2));
          both_dead = λ long e. absurd (omega (arith, e, w.held, ap (λ (c : Cell). c.count) self));
          single_last = λ _ one. ap (λ (c : Cell). c.last) self ∙ w.single_last (omega (arith, one, ap (λ (c : Cell). c.len) self)) ∙ sym (ap (λ (c : Cell). c.head) self);
          longer_last = λ _ long.
              let l2 : 1 < y.len = omega (arith, long, ap (λ (c : Cell). c.len) self) in
              ap (λ (c : Cell). c.last) self ∙ w.longer_last l2 ∙ sym (ap (λ t. (cell_at (set xs f y) t).last) (ap (λ (c : Cell). c.tail) self) ∙ ap (λ (c : Cell). c.last) (other y.tail (tail_apart l2)));
        })
        | inr n ↦ linked_same xs (set xs f y) j (omega (arith, len)) (kind_same (cell_at xs j) (cell_at (set xs f y) j) (other j n))
            (λ long. kind_same (cell_at xs (cell_at xs j).tail) (cell_at (set xs f y) (cell_at xs j).tail) (other (cell_at xs j).tail (next_apart j (omega (arith, l, len)) n long)))
            (r.linked j (omega (arith, l, len)))
      ];
      counted = λ k. elim (cases_eq k f) [
        | inl q ↦ subst (λ i. cells_above (set xs f y) i ≤ (cell_at (set xs f y) i).count) (sym q)
            (omega (arith, take_above_other xs f f y inside dead tail_apart, r.counted f, dead))
        | inr n ↦ take_counted xs f spare limit y k r w n
      ];
      first_inside = λ s. omega (arith, len, (r.linked f inside).inside (omega (arith, flen, s)));
      first_dead = λ s.
          let long : 1 < (cell_at xs f).len = omega (arith, flen, s) in
          let t_dead : (cell_at xs (cell_at xs f).tail).count ≡ 0 = (r.linked f inside).both_dead long dead in
          let t_len : (cell_at xs (cell_at xs f).tail).len + 1 ≡ suc spare = (r.linked f inside).shorter long ∙ flen in
          ap (λ (c : Cell). c.count) (other (cell_at xs f).tail (λ e. omega (arith, t_len, flen, ap (λ t. (cell_at xs t).len) e))) ∙ t_dead;
      first_len = λ s.
          let long : 1 < (cell_at xs f).len = omega (arith, flen, s) in
          let t_len : (cell_at xs (cell_at xs f).tail).len + 1 ≡ suc spare = (r.linked f inside).shorter long ∙ flen in
          ap (λ (c : Cell). c.len) (other (cell_at xs f).tail (λ e. omega (arith, t_len, flen, ap (λ t. (cell_at xs t).len) e))) ∙ omega (arith, t_len);
      dead_short = λ j l e.
          let d : (j ≢ f) × ((cell_at xs j).count ≡ 0) = was_dead j e in
          let short : (cell_at xs j).len ≤ suc spare = r.dead_short j (omega (arith, l, len)) d.1 in
          let ne : (cell_at xs j).len ≢ suc spare = λ q. d.0 (r.dead_apart j f (omega (arith, l, len)) inside d.1 dead (q ∙ sym flen)) in
          omega (arith, short, ne, ap (λ (c : Cell). c.len) (other j d.0));
      dead_apart = λ i j l1 l2 e1 e2 e.
          let d1 : (i ≢ f) × ((cell_at xs i).count ≡ 0) = was_dead i e1 in
          let d2 : (j ≢ f) × ((cell_at xs j).count ≡ 0) = was_dead j e2 in
          r.dead_apart i j (omega (arith, l1, len)) (omega (arith, l2, len)) d1.1 d2.1
          (sym (ap (λ (c : Cell). c.len) (other i d1.0)) ∙ e ∙ ap (λ (c : Cell). c.len) (other j d2.0));
      all_counted = omega (arith, live, len, r.all_counted);
      within = omega (arith, len, r.within);
      limited = r.limited;
    }

pub take_lists : (xs : List Cell) (free spare limit : ℕ) (y : Cell) → IsRegion xs free (suc spare) limit → (k : ℕ) → IsLive xs k → list_of (set xs free y) k ≡ list_of xs k
take_lists xs f spare limit y r k h =
    let dead : (cell_at xs f).count ≡ 0 = r.first_dead (omega arith) in
    lists_same (IsLive xs) xs (set xs f y)
    (λ j p. kind_same (cell_at xs j) (cell_at (set xs f y) j) (at_other xs f j y (λ e. omega (arith, p, dead, ap (λ t. (cell_at xs t).count) e))))
    (λ j p l. (r.linked j (live_inside xs j p)).both_live l p)
    (λ j p l. (r.linked j (live_inside xs j p)).shorter l)
    k h

-- a cell that nothing holds any more goes to the front of the free ones

pub drop_above : (xs : List Cell) (d k : ℕ) (y : Cell) → d < length xs → y.count ≡ 0 →
    cells_above (set xs d y) k + one_if (is_above k (cell_at xs d)) ≡ cells_above xs k
drop_above xs d k y l e = omega (arith, count-set (is_above k) xs d y l, ap one_if (not_above k y e))

pub drop_region : (xs : List Cell) (free spare limit d : ℕ) (y : Cell) → IsRegion xs free spare limit → IsLive xs d → cells_above xs d ≡ 0 →
    y.count ≡ 0 → y.len ≡ spare + 1 → y.tail ≡ free → IsRegion (set xs d y) d (spare + 1) limit
drop_region xs free spare limit d y r a none y_dead y_len y_tail =
    let inside : d < length xs = live_inside xs d a in
    let len : length (set xs d y) ≡ length xs = length-set xs d y in
    let self : cell_at (set xs d y) d ≡ y = at_same xs d y inside in
    let other : (j : ℕ) → j ≢ d → cell_at (set xs d y) j ≡ cell_at xs j = λ j n. at_other xs d j y n in
    let free_apart : 0 < spare → free ≢ d = λ s e. omega (arith, a, r.first_dead s, ap (λ t. (cell_at xs t).count) e) in
    let live : live_count (set xs d y) + 1 ≡ live_count xs =
    omega (arith, count-set is_live xs d y inside, ap one_if (le-ltb 0 y.count (omega (arith, y_dead))), ap one_if (lt-ltb 0 (cell_at xs d).count a)) in
    let next_apart : (j : ℕ) → j < length xs → 1 < (cell_at xs j).len → (cell_at xs j).tail ≢ d = λ j l long e.
    elim (cases_lt 0 (cell_at xs j).count) [
      | inl p ↦ absurd (clash (count_none (is_above d) xs j l none) (above_is d (cell_at xs j) p long e))
      | inr g ↦ omega (arith, a, ap (λ t. (cell_at xs t).count) e, (r.linked j l).both_dead long (omega (arith, g)))
    ] in
    record {
      linked = λ j l. elim (cases_eq j d) [
        | inl q ↦ subst (λ i. IsLinked (set xs d y) i) (sym q) (record {
          some = omega (arith, y_len, ap (λ (c : Cell). c.len) self);
          inside = λ long. omega (arith, len, y_tail, ap (λ (c : Cell). c.tail) self, r.first_inside (omega (arith, long, y_len, ap (λ (c : Cell). c.len) self)));
          shorter = λ long.
              let s : 0 < spare = omega (arith, long, y_len, ap (λ (c : Cell). c.len) self) in
              ap (λ t. (cell_at (set xs d y) t).len + 1) (ap (λ (c : Cell). c.tail) self ∙ y_tail) ∙ ap (λ (c : Cell). c.len + 1) (other free (free_apart s)) ∙ ap (λ n. n + 1) (r.first_len s) ∙ sym y_len ∙ sym (ap (λ (c : Cell). c.len) self);
          both_live = λ long p. absurd (omega (arith, p, y_dead, ap (λ (c : Cell). c.count) self));
          both_dead = λ long e.
              let s : 0 < spare = omega (arith, long, y_len, ap (λ (c : Cell). c.len) self) in
              ap (λ t. (cell_at (set xs d y) t).count) (ap (λ (c : Cell). c.tail) self ∙ y_tail) ∙ ap (λ (c : Cell). c.count) (other free (free_apart s)) ∙ r.first_dead s;
          single_last = λ p _. absurd (omega (arith, p, y_dead, ap (λ (c : Cell). c.count) self));
          longer_last = λ p _. absurd (omega (arith, p, y_dead, ap (λ (c : Cell). c.count) self));
        })
        | inr n ↦ linked_same xs (set xs d y) j (omega (arith, len)) (kind_same (cell_at xs j) (cell_at (set xs d y) j) (other j n))
            (λ long. kind_same (cell_at xs (cell_at xs j).tail) (cell_at (set xs d y) (cell_at xs j).tail) (other (cell_at xs j).tail (next_apart j (omega (arith, l, len)) long)))
            (r.linked j (omega (arith, l, len)))
      ];
      counted = λ k. elim (cases_eq k d) [
        | inl q ↦ subst (λ i. cells_above (set xs d y) i ≤ (cell_at (set xs d y) i).count) (sym q) (omega (arith, drop_above xs d d y inside y_dead, none))
        | inr n ↦ omega (arith, drop_above xs d k y inside y_dead, r.counted k, ap (λ (c : Cell). c.count) (other k n))
      ];
      first_inside = λ s. omega (arith, len, inside);
      first_dead = λ s. ap (λ (c : Cell). c.count) self ∙ y_dead;
      first_len = λ s. ap (λ (c : Cell). c.len) self ∙ y_len;
      dead_short = λ j l e. elim (cases_eq j d) [
        | inl q ↦ omega (arith, ap (λ t. (cell_at (set xs d y) t).len) q, ap (λ (c : Cell). c.len) self, y_len)
        | inr n ↦ omega (arith, ap (λ (c : Cell). c.len) (other j n), r.dead_short j (omega (arith, l, len)) (sym (ap (λ (c : Cell). c.count) (other j n)) ∙ e))
      ];
      dead_apart = λ i j l1 l2 e1 e2 e. elim (cases_eq i d) [
        | inl p ↦ elim (cases_eq j d) [
          | inl q ↦ p ∙ sym q
          | inr n ↦ absurd (omega (arith, e, ap (λ t. (cell_at (set xs d y) t).len) p, ap (λ (c : Cell). c.len) self, y_len, ap (λ (c : Cell). c.len) (other j n), r.dead_short j (omega (arith, l2, len)) (sym (ap (λ (c : Cell). c.count) (other j n)) ∙ e2)))
        ]
        | inr m ↦ elim (cases_eq j d) [
          | inl q ↦ absurd (omega (arith, e, ap (λ t. (cell_at (set xs d y) t).len) q, ap (λ (c : Cell). c.len) self, y_len, ap (λ (c : Cell). c.len) (other i m), r.dead_short i (omega (arith, l1, len)) (sym (ap (λ (c : Cell). c.count) (other i m)) ∙ e1)))
          | inr n ↦ r.dead_apart i j (omega (arith, l1, len)) (omega (arith, l2, len)) (sym (ap (λ (c : Cell). c.count) (other i m)) ∙ e1) (sym (ap (λ (c : Cell). c.count) (other j n)) ∙ e2)
              (sym (ap (λ (c : Cell). c.len) (other i m)) ∙ e ∙ ap (λ (c : Cell). c.len) (other j n))
        ]
      ];
      all_counted = omega (arith, live, len, r.all_counted);
      within = omega (arith, len, r.within);
      limited = r.limited;
    }
  where
    clash : {b : Bool} → b ≡ false → b ≡ true → ⊥
    clash p q = false≢true (sym p ∙ q)

pub drop_lists : (xs : List Cell) (free spare limit d : ℕ) (y : Cell) → IsRegion xs free spare limit → IsLive xs d → cells_above xs d ≡ 0 →
    (k : ℕ) → IsLive xs k → k ≢ d → list_of (set xs d y) k ≡ list_of xs k
drop_lists xs free spare limit d y r a none k h n =
    lists_same (λ j. IsLive xs j × (j ≢ d)) xs (set xs d y)
    (λ j p. kind_same (cell_at xs j) (cell_at (set xs d y) j) (at_other xs d j y p.1))
    (λ j p l. (
      (r.linked j (live_inside xs j p.0)).both_live l p.0,
      λ e. both_ways (is_above d (cell_at xs j)) (count_none (is_above d) xs j (live_inside xs j p.0) none) (above_is d (cell_at xs j) p.0 l e),
    ))
    (λ j p l. (r.linked j (live_inside xs j p.0)).shorter l)
    k (h, n)

-- a list is no longer than there are live cells

abbrev pub is_short : ℕ → Cell → Bool
is_short n c = ltb 0 c.count && leb c.len n

short_more : (n : ℕ) (c : Cell) → is_short n c ≡ true → is_short (suc n) c ≡ true
short_more n c e =
    let both : (ltb 0 c.count ≡ true) × (leb c.len n ≡ true) = and_parts (ltb 0 c.count) (leb c.len n) e in
    and_from (ltb 0 c.count) (leb c.len (suc n)) both.0 (le-leb c.len (suc n) (omega (arith, leb-true c.len n both.1)))

short_live : (n : ℕ) (c : Cell) → is_short n c ≡ true → is_live c ≡ true
short_live n c e = (and_parts (ltb 0 c.count) (leb c.len n) e).0

len_le_short : (xs : List Cell) (free spare limit : ℕ) → IsRegion xs free spare limit → (n i : ℕ) → IsLive xs i → (cell_at xs i).len ≡ n → n ≤ count_by (is_short n) xs
len_le_short xs free spare limit r zero i a e = omega arith
len_le_short xs free spare limit r (suc n) i a e =
    let inside : i < length xs = live_inside xs i a in
    let below : n ≤ count_by (is_short n) xs = elim (cases_lt 0 n) [
      | inr g ↦ omega (arith, g)
      | inl p ↦
          let long : 1 < (cell_at xs i).len = omega (arith, p, e) in
          len_le_short xs free spare limit r n (cell_at xs i).tail ((r.linked i inside).both_live long a) (omega (arith, (r.linked i inside).shorter long, e))
    ] in
    omega (
      arith,
      below,
      count_more (is_short n) (is_short (suc n)) (short_more n) refl refl xs i inside
          (and_right (ltb 0 (cell_at xs i).count) (leb (cell_at xs i).len n) (lt-leb (cell_at xs i).len n (omega (arith, e))))
          (and_from (ltb 0 (cell_at xs i).count) (leb (cell_at xs i).len (suc n)) (lt-ltb 0 (cell_at xs i).count a) (le-leb (cell_at xs i).len (suc n) (omega (arith, e)))),
    )

pub len_le_live : (xs : List Cell) (free spare limit i : ℕ) → IsRegion xs free spare limit → IsLive xs i → (cell_at xs i).len ≤ live_count xs
len_le_live xs free spare limit i r a =
    omega (arith, len_le_short xs free spare limit r (cell_at xs i).len i a refl, count_mono (is_short (cell_at xs i).len) is_live (short_live (cell_at xs i).len) xs)

one_less : (n : ℕ) → 0 < n → n ≡ suc (n - 1)
one_less n h = omega arith

-- the same, as the code has it
pub take_region_at : (xs : List Cell) (free spare limit : ℕ) (y v : Cell) → IsRegion xs free spare limit → 0 < spare → CanFollow xs y → v ≡ cell_at xs free →
    IsRegion (set xs free y) v.tail (spare - 1) limit
take_region_at xs free spare limit y v r s w e =
    subst (λ (c : Cell). IsRegion (set xs free y) c.tail (spare - 1) limit) (sym e)
    (take_region xs free (spare - 1) limit y (subst (λ n. IsRegion xs free n limit) (one_less spare s) r) w)

pub take_lists_at : (xs : List Cell) (free spare limit : ℕ) (y : Cell) → IsRegion xs free spare limit → 0 < spare → (k : ℕ) → IsLive xs k → list_of (set xs free y) k ≡ list_of xs k
take_lists_at xs free spare limit y r s k h = take_lists xs free (spare - 1) limit y (subst (λ n. IsRegion xs free n limit) (one_less spare s) r) k h
