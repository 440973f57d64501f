-- Chunks in order: what stands round a chunk, and what they are after one of them has changed.
use Rattle.std.proofs.Common.{◌≡◌, ℕ, zero, suc, ◌-◌, ◌≤◌, ◌<◌, Bool, true, false, not, ◌||◌, ◌&&◌, List, [], ◌∷◌, ◌++◌, length, take, drop, get_or, set, refl, sym, ap, subst, ◌∙◌, arith, ◌⊎◌, inl, inr, append_assoc}
use Rattle.std.specs.List.{remove, list_all, AllByRecursion}
use Rattle.std.specs.List.Sorted.{IsPartitionPoint, IsPartitionedBy}
use Rattle.std.proofs.lemmas.Bool.{cases_lt}
use Rattle.std.proofs.lemmas.List.{drop_all}
use Rattle.std.proofs.lemmas.List.Folds.{list_any-append}
use Rattle.std.specs.Ordering.{is_lt, eq_by_cmp}
use Rattle.net_names.specs.Prefixes.{PrefixValue, prefix_cmp}
use Rattle.net_names.specs.Payloads.{VrpValue, vrp_cmp}
use Rattle.net_names.specs.Orders.{prefix_total, exact_prefix, vrp_total, exact_vrp}
use Rattle.roa_table.specs.declared.chunk.Chunk.{Chunk}
use Rattle.roa_table.specs.Lists.{is_rising, IsRising, is_below, is_above, is_from, row_in, stands_in, PutsIn, TakesOut}
use Rattle.roa_table.specs.Sets.{added, taken, set_of}
use Rattle.roa_table.specs.Chunks.{all_of, IsBefore, IsInOrder, IsHome}
use Rattle.net_names.proofs.Shortening.{both, both_true}
use Rattle.roa_table.proofs.Booleans.{not_true, not_false, not-false, and_false, or_false, list_all_mono, list_any_opposite, filter_within, each_left, each_right, each_append, each_mono, each_both, each_at, each_drop, across_append, across_none}
use Rattle.roa_table.proofs.Rising.{lt_le, lt_trans, lt_not_tied, gt_not_tied, eq_is, rising_append}
use Rattle.roa_table.proofs.Placed.{prefix_first, set_put, set_take}

-- a list round one of its elements
pub whole_at : {A : Type 0} (xs : List A) (k : ℕ) (d : A) → k < length xs → xs ≡ take k xs ++ (get_or xs k d ∷ drop (suc k) xs)
whole_at [] k d h = absurd (omega (arith, h))
whole_at (x ∷ []) zero d h = refl
whole_at (x ∷ (y ∷ xs)) zero d h = refl
whole_at (x ∷ xs) (suc k) d h = ap (λ l. x ∷ l) (whole_at xs k d (omega (arith, h)))

pub set_at : {A : Type 0} (xs : List A) (k : ℕ) (y : A) → k < length xs → set xs k y ≡ take k xs ++ (y ∷ drop (suc k) xs)
set_at [] k y h = absurd (omega (arith, h))
set_at (x ∷ []) zero y h = refl
set_at (x ∷ (z ∷ xs)) zero y h = refl
set_at (x ∷ xs) (suc k) y h = ap (λ l. x ∷ l) (set_at xs k y (omega (arith, h)))

pub all_of-append : (F G : List Chunk) → all_of (F ++ G) ≡ all_of F ++ all_of G
all_of-append [] G = refl
all_of-append (f ∷ F) G = ap (λ l. f.vrps.items ++ l) (all_of-append F G) ∙ sym (append_assoc f.vrps.items (all_of F) (all_of G))

-- what stands before a chunk and behind it
pub record Around (F : List Chunk) (s : Chunk) (G : List Chunk) : Type 0 where
  pub front : IsInOrder F
  pub before : AllByRecursion (λ f. IsBefore f s) F
  pub across : AllByRecursion (λ f. AllByRecursion (IsBefore f) G) F
  pub here : IsRising s.vrps.items
  pub after : AllByRecursion (IsBefore s) G
  pub back : IsInOrder G

pub around : (F : List Chunk) (s : Chunk) (G : List Chunk) → IsInOrder (F ++ (s ∷ G)) → Around F s G
around [] s G h = record { front = tt; before = tt; across = tt; here = h.0; after = h.1; back = h.2 }
around (f ∷ F) s G h =
    let k = around F s G h.2 in
    let r = each_right (IsBefore f) F (s ∷ G) h.1 in
    record { front = (h.0, each_left (IsBefore f) F (s ∷ G) h.1, k.front); before = (r.0, k.before); across = (r.1, k.across); here = k.here; after = k.after; back = k.back }

pub in_order : (F : List Chunk) (s : Chunk) (G : List Chunk) → Around F s G → IsInOrder (F ++ (s ∷ G))
in_order [] s G a = (a.here, a.after, a.back)
in_order (f ∷ F) s G a = (
  a.front.0,
  each_append (IsBefore f) F (s ∷ G) a.front.1 (a.before.0, a.across.0),
  in_order F s G (record { front = a.front.2; before = a.before.1; across = a.across.1; here = a.here; after = a.after; back = a.back }),
)

-- the home of a prefix among the chunks round it
pub record Homes (F : List Chunk) (s : Chunk) (G : List Chunk) (p : PrefixValue) : Type 0 where
  pub around : Around F s G
  pub low : 0 < length F → is_lt (prefix_cmp p s.low) ≡ false
  pub later : AllByRecursion (λ (t : Chunk). is_lt (prefix_cmp p t.low) ≡ true) G

pub homes : (ss : List Chunk) (p : PrefixValue) (k : ℕ) (d : Chunk) → IsInOrder ss → IsHome ss p k → Homes (take k ss) (get_or ss k d) (drop (suc k) ss) p
homes ss p k d h home = record {
  around = around (take k ss) (get_or ss k d) (drop (suc k) ss) (subst IsInOrder (whole_at ss k d home.inside) h);
  low = λ some. home.low d (some_before k ss some);
  later = home.later;
}
  where
    some_before : (n : ℕ) (ts : List Chunk) → 0 < length (take n ts) → 0 < n
    some_before zero [] e = absurd (omega (arith, e))
    some_before zero (t ∷ ts) e = absurd (omega (arith, e))
    some_before (suc n) ts e = omega arith

-- the payloads before the home of a prefix are below it, and those behind above it
front_low : (F : List Chunk) (s : Chunk) (p : PrefixValue) → is_lt (prefix_cmp p s.low) ≡ false → AllByRecursion (λ f. IsBefore f s) F → list_all (is_below p) (all_of F) ≡ true
front_low [] s p e h = refl
front_low (f ∷ F) s p e h = joined f.vrps.items (all_of F) (list_all_mono (is_below s.low) (is_below p) (λ v k. lt_le prefix_total exact_prefix v.prefix s.low p k e) f.vrps.items h.0.below) (front_low F s p e h.1)
  where
    joined : (xs ys : List VrpValue) → list_all (is_below p) xs ≡ true → list_all (is_below p) ys ≡ true → list_all (is_below p) (xs ++ ys) ≡ true
    joined [] ys a b = b
    joined (x ∷ xs) ys a b = let k = both _ _ a in both_true _ _ k.left (joined xs ys k.right b)

pub front_below : (F : List Chunk) (s : Chunk) (G : List Chunk) (p : PrefixValue) → Homes F s G p → list_all (is_below p) (all_of F) ≡ true
front_below [] s G p h = refl
front_below (f ∷ F) s G p h = front_low (f ∷ F) s p (h.low (omega arith)) h.around.before

back_high : (s : Chunk) (G : List Chunk) (p : PrefixValue) → AllByRecursion (λ (t : Chunk). is_lt (prefix_cmp p t.low) ≡ true) G → AllByRecursion (IsBefore s) G → list_all (is_above p) (all_of G) ≡ true
back_high s [] p h k = refl
back_high s (t ∷ G) p h k = joined t.vrps.items (all_of G) (list_all_mono (is_from t.low) (is_above p) (λ v e. lt_le prefix_total exact_prefix p t.low v.prefix h.0 (not_true _ e)) t.vrps.items k.0.from) (back_high s G p h.1 k.1)
  where
    joined : (xs ys : List VrpValue) → list_all (is_above p) xs ≡ true → list_all (is_above p) ys ≡ true → list_all (is_above p) (xs ++ ys) ≡ true
    joined [] ys a b = b
    joined (x ∷ xs) ys a b = let k = both _ _ a in both_true _ _ k.left (joined xs ys k.right b)

pub back_above : (F : List Chunk) (s : Chunk) (G : List Chunk) (p : PrefixValue) → Homes F s G p → list_all (is_above p) (all_of G) ≡ true
back_above F s G p h = back_high s G p h.later h.around.after

all_around : (F : List Chunk) (s : Chunk) (G : List Chunk) → all_of (F ++ (s ∷ G)) ≡ all_of F ++ (s.vrps.items ++ all_of G)
all_around F s G = all_of-append F (s ∷ G)

-- the payloads of a prefix stand in its home
pub row_home : (F : List Chunk) (s : Chunk) (G : List Chunk) (p : PrefixValue) → Homes F s G p → row_in p (all_of (F ++ (s ∷ G))) ≡ row_in p s.vrps.items
row_home F s G p h = ap (row_in p) (all_around F s G) ∙ filter_within (λ v. eq_by_cmp prefix_cmp v.prefix p) (all_of F) s.vrps.items (all_of G)
    (list_any_opposite (is_below p) (λ v. eq_by_cmp prefix_cmp v.prefix p) (λ v e. lt_not_tied prefix_total exact_prefix v.prefix p e) (all_of F) (front_below F s G p h))
    (list_any_opposite (is_above p) (λ v. eq_by_cmp prefix_cmp v.prefix p) (λ v e. gt_not_tied prefix_total exact_prefix v.prefix p e) (all_of G) (back_above F s G p h))

none_front : (v : VrpValue) (ws : List VrpValue) → list_all (is_below v.prefix) ws ≡ true → stands_in ws v ≡ false
none_front v = list_any_opposite (is_below v.prefix) (eq_by_cmp vrp_cmp v) (λ w e. gt_not_tied vrp_total exact_vrp v w (prefix_first w v e))

none_back : (v : VrpValue) (ws : List VrpValue) → list_all (is_above v.prefix) ws ≡ true → stands_in ws v ≡ false
none_back v = list_any_opposite (is_above v.prefix) (eq_by_cmp vrp_cmp v) (λ w e. lt_not_tied vrp_total exact_vrp v w (prefix_first v w e))

pub stands_around : (F : List Chunk) (s : Chunk) (G : List Chunk) (q : VrpValue) → stands_in (all_of (F ++ (s ∷ G))) q ≡ (stands_in (all_of F) q || (stands_in s.vrps.items q || stands_in (all_of G) q))
stands_around F s G q =
    ap (λ l. stands_in l q) (all_around F s G) ∙ list_any-append (eq_by_cmp vrp_cmp q) (all_of F) (s.vrps.items ++ all_of G)
    ∙ ap (λ b. stands_in (all_of F) q || b) (list_any-append (eq_by_cmp vrp_cmp q) s.vrps.items (all_of G))

pub stands_home : (F : List Chunk) (s : Chunk) (G : List Chunk) (v : VrpValue) → Homes F s G v.prefix → stands_in (all_of (F ++ (s ∷ G))) v ≡ stands_in s.vrps.items v
stands_home F s G v h =
    stands_around F s G v
    ∙ (λ i. none_front v (all_of F) (front_below F s G v.prefix h) i || (stands_in s.vrps.items v || none_back v (all_of G) (back_above F s G v.prefix h) i))
    ∙ or_false (stands_in s.vrps.items v)

-- after a payload was put into its chunk
module _ (F : List Chunk) (s : Chunk) (G : List Chunk) (v : VrpValue) (h : Homes F s G v.prefix) (t : Chunk) (low : t.low ≡ s.low) where
  before_same : (F2 : List Chunk) → (0 < length F2 → list_all (is_from s.low) t.vrps.items ≡ true) → AllByRecursion (λ f. IsBefore f s) F2 → AllByRecursion (λ f. IsBefore f t) F2
  before_same [] from k = tt
  before_same (f ∷ F2) from k = (
    record {
      low = ap (λ p. is_lt (prefix_cmp f.low p)) low ∙ k.0.low;
      below = ap (λ p. list_all (is_below p) f.vrps.items) low ∙ k.0.below;
      from = ap (λ p. list_all (is_from p) t.vrps.items) low ∙ from (omega arith);
    },
    before_same F2 (λ e. from (omega arith)) k.1,
  )

  after_same : (G2 : List Chunk) → AllByRecursion (λ (g : Chunk). list_all (is_below g.low) t.vrps.items ≡ true) G2 → AllByRecursion (IsBefore s) G2 → AllByRecursion (IsBefore t) G2
  after_same G2 = each_both (λ (g : Chunk). list_all (is_below g.low) t.vrps.items ≡ true) (IsBefore s) (IsBefore t)
      (λ g b k. record { low = ap (λ p. is_lt (prefix_cmp p g.low)) low ∙ k.low; below = b; from = k.from }) G2

  from_before : (F2 : List Chunk) → 0 < length F2 → AllByRecursion (λ f. IsBefore f s) F2 → list_all (is_from s.low) s.vrps.items ≡ true
  from_before [] e k = absurd (omega (arith, e))
  from_before (f ∷ F2) e k = k.0.from

  module _ (p : PutsIn s.vrps.items t.vrps.items v) where
    pub put_order : IsInOrder (F ++ (t ∷ G))
    put_order = in_order F t G (record {
      front = h.around.front;
      before = before_same F (λ e. p.tests (is_from s.low) (from_before F e h.around.before) (not-false _ (h.low e))) h.around.before;
      across = h.around.across;
      here = p.rising;
      after = after_same G (each_both (λ (g : Chunk). is_lt (prefix_cmp v.prefix g.low) ≡ true) (IsBefore s) (λ (g : Chunk). list_all (is_below g.low) t.vrps.items ≡ true) (λ g l k. p.tests (is_below g.low) k.below l) G h.later h.around.after) h.around.after;
      back = h.around.back;
    })

    pub put_members : (q : VrpValue) → stands_in (all_of (F ++ (t ∷ G))) q ≡ (eq_by_cmp vrp_cmp q v || stands_in (all_of (F ++ (s ∷ G))) q)
    put_members q =
        stands_around F t G q ∙ ap (λ b. stands_in (all_of F) q || (b || stands_in (all_of G) q)) (p.members q)
        ∙ swap (stands_in (all_of F) q) (eq_by_cmp vrp_cmp q v) (stands_in s.vrps.items q) (stands_in (all_of G) q)
        ∙ ap (λ b. eq_by_cmp vrp_cmp q v || b) (sym (stands_around F s G q))
      where
        swap : (a b c d : Bool) → (a || ((b || c) || d)) ≡ (b || (a || (c || d)))
        swap true true c d = refl
        swap true false c d = refl
        swap false true c d = refl
        swap false false c d = refl

  -- after one was taken out
  module _ (p : TakesOut s.vrps.items t.vrps.items v) where
    pub take_order : IsInOrder (F ++ (t ∷ G))
    take_order = in_order F t G (record {
      front = h.around.front;
      before = before_same F (λ e. p.tests (is_from s.low) (from_before F e h.around.before)) h.around.before;
      across = h.around.across;
      here = p.rising;
      after = after_same G (each_mono (IsBefore s) (λ (g : Chunk). list_all (is_below g.low) t.vrps.items ≡ true) (λ g k. p.tests (is_below g.low) k.below) G h.around.after) h.around.after;
      back = h.around.back;
    })

    pub take_members : (q : VrpValue) → stands_in (all_of (F ++ (t ∷ G))) q ≡ (not (eq_by_cmp vrp_cmp q v) && stands_in (all_of (F ++ (s ∷ G))) q)
    take_members q = stands_around F t G q ∙ ap (λ b. stands_in (all_of F) q || (b || stands_in (all_of G) q)) (p.members q) ∙ by (eq_by_cmp vrp_cmp q v) refl
      where
        by : (b : Bool) → eq_by_cmp vrp_cmp q v ≡ b → (stands_in (all_of F) q || ((not b && stands_in s.vrps.items q) || stands_in (all_of G) q)) ≡ (not b && stands_in (all_of (F ++ (s ∷ G))) q)
        by false e = sym (stands_around F s G q)
        by true e =
            let is = eq_is vrp_total exact_vrp q v e in
            (λ i. (ap (stands_in (all_of F)) is ∙ none_front v (all_of F) (front_below F s G v.prefix h)) i || (ap (stands_in (all_of G)) is ∙ none_back v (all_of G) (back_above F s G v.prefix h)) i)

-- the payloads of chunks in order rise
across_one : (s t : Chunk) → IsBefore s t → list_all (λ v. list_all (λ w. is_lt (vrp_cmp v w)) t.vrps.items) s.vrps.items ≡ true
across_one s t k = list_all_mono (is_below t.low) (λ v. list_all (λ w. is_lt (vrp_cmp v w)) t.vrps.items)
    (λ v b. list_all_mono (is_from t.low) (λ w. is_lt (vrp_cmp v w)) (λ w f. prefix_first v w (lt_le prefix_total exact_prefix v.prefix t.low w.prefix b (not_true _ f))) t.vrps.items k.from)
    s.vrps.items k.below

across_all : (s : Chunk) (ss : List Chunk) → AllByRecursion (IsBefore s) ss → list_all (λ v. list_all (λ w. is_lt (vrp_cmp v w)) (all_of ss)) s.vrps.items ≡ true
across_all s [] h = across_none (λ v w. is_lt (vrp_cmp v w)) s.vrps.items
across_all s (t ∷ ss) h = across_append (λ v w. is_lt (vrp_cmp v w)) s.vrps.items t.vrps.items (all_of ss) (across_one s t h.0) (across_all s ss h.1)

pub rising_all : (ss : List Chunk) → IsInOrder ss → IsRising (all_of ss)
rising_all [] h = refl
rising_all (s ∷ ss) h = rising_append vrp_cmp s.vrps.items (all_of ss) h.0 (rising_all ss h.2) (across_all s ss h.1)

-- the low prefixes rise, so a search finds the home of a prefix
lows_rise : (ss : List Chunk) → IsInOrder ss → (i j : ℕ) (d : Chunk) → i < j → j < length ss → is_lt (prefix_cmp (get_or ss i d).low (get_or ss j d).low) ≡ true
lows_rise [] h i j d lt inside = absurd (omega (arith, inside))
lows_rise (s ∷ ss) h i zero d lt inside = absurd (omega (arith, lt))
lows_rise (s ∷ ss) h zero (suc j) d lt inside = (each_at (IsBefore s) ss h.1 j d (omega (arith, inside))).low
lows_rise (s ∷ ss) h (suc i) (suc j) d lt inside = lows_rise ss h.2 i j d (omega (arith, lt)) (omega (arith, inside))

-- the chunk's low prefix is not above this one
abbrev pub is_low : PrefixValue → Chunk → Bool
is_low p s = not (is_lt (prefix_cmp p s.low))

pub parted_low : (p : PrefixValue) (ss : List Chunk) → IsInOrder ss → IsPartitionedBy (is_low p) ss
parted_low p ss h i j d le inside e = by (cases_lt i j)
  where
    earlier : (b : Bool) → is_lt (prefix_cmp p (get_or ss i d).low) ≡ b → is_lt (prefix_cmp (get_or ss i d).low (get_or ss j d).low) ≡ true → not b ≡ true
    earlier false k l = refl
    earlier true k l = cc (not_true _ e, lt_trans prefix_total exact_prefix p (get_or ss i d).low (get_or ss j d).low k l)

    by : (i < j) ⊎ (j ≤ i) → is_low p (get_or ss i d) ≡ true
    by (inl below) = earlier (is_lt (prefix_cmp p (get_or ss i d).low)) refl (lows_rise ss h i j d below inside)
    by (inr above) = let same : j ≡ i = omega arith in ap (λ n. is_low p (get_or ss n d)) (sym same) ∙ e

pub home_by : (p : PrefixValue) (ss : List Chunk) (n k : ℕ) → 0 < length ss → n ≤ length ss → k ≡ n - 1 → IsPartitionPoint (λ s. is_low p s ≡ true) (λ s. is_low p s ≡ false) ss n → IsHome ss p k
home_by p ss n k some le e point = record {
  inside = omega (arith, e);
  low = λ s pos. not_true _ (point.0 k s (omega arith) (omega (arith, e)));
  later = each_drop (λ (t : Chunk). is_lt (prefix_cmp p t.low) ≡ true) ss (suc k) (λ j d a lt. not_false _ (point.1 j d (omega (arith, e)) lt));
}

-- a chunk that is the home of a prefix, at its place
module _ (ss : List Chunk) (p : PrefixValue) (k : ℕ) (s : Chunk) (order : IsInOrder ss) (home : IsHome ss p k) (at : s ≡ get_or ss k s) where
  abbrev F : List Chunk
  F = take k ss

  abbrev G : List Chunk
  G = drop (suc k) ss

  whole : ss ≡ F ++ (s ∷ G)
  whole = whole_at ss k s home.inside ∙ ap (λ t. F ++ (t ∷ G)) (sym at)

  here : Homes F s G p
  here = subst (λ t. Homes F t G p) (sym at) (homes ss p k s order home)

  pub rising_here : IsRising s.vrps.items
  rising_here = here.around.here

  pub row_here : row_in p s.vrps.items ≡ row_in p (all_of ss)
  row_here = sym (ap (λ l. row_in p (all_of l)) whole ∙ row_home F s G p here)

  module _ (v : VrpValue) (of : p ≡ v.prefix) where
    here_of : Homes F s G v.prefix
    here_of = subst (Homes F s G) of here

    pub stands_here : stands_in s.vrps.items v ≡ stands_in (all_of ss) v
    stands_here = sym (ap (λ l. stands_in (all_of l) v) whole ∙ stands_home F s G v here_of)

    module _ (t : Chunk) (low : t.low ≡ s.low) where
      pub put_order_at : PutsIn s.vrps.items t.vrps.items v → IsInOrder (set ss k t)
      put_order_at h = subst IsInOrder (sym (set_at ss k t home.inside)) (put_order F s G v here_of t low h)

      pub put_set_at : PutsIn s.vrps.items t.vrps.items v → set_of (all_of (set ss k t)) ≡ added (set_of (all_of ss)) v
      put_set_at h = set_put (all_of ss) (all_of (set ss k t)) v
          (λ q. ap (λ l. stands_in (all_of l) q) (set_at ss k t home.inside) ∙ put_members F s G v here_of t low h q ∙ ap (λ l. eq_by_cmp vrp_cmp q v || stands_in (all_of l) q) (sym whole))

      pub take_order_at : TakesOut s.vrps.items t.vrps.items v → IsInOrder (set ss k t)
      take_order_at h = subst IsInOrder (sym (set_at ss k t home.inside)) (take_order F s G v here_of t low h)

      pub take_set_at : TakesOut s.vrps.items t.vrps.items v → set_of (all_of (set ss k t)) ≡ taken (set_of (all_of ss)) v
      take_set_at h = set_take (all_of ss) (all_of (set ss k t)) v
          (λ q. ap (λ l. stands_in (all_of l) q) (set_at ss k t home.inside) ∙ take_members F s G v here_of t low h q ∙ ap (λ l. not (eq_by_cmp vrp_cmp q v) && stands_in (all_of l) q) (sym whole))

  -- nothing has changed
  module _ (t : Chunk) (low : t.low ≡ s.low) (same : t.vrps.items ≡ s.vrps.items) where
    pub same_order_at : IsInOrder (set ss k t)
    same_order_at = subst IsInOrder (sym (set_at ss k t home.inside)) (in_order F t G (record {
      front = here.around.front;
      before = each_mono (λ f. IsBefore f s) (λ f. IsBefore f t) (λ f b. record { low = ap (λ q. is_lt (prefix_cmp f.low q)) low ∙ b.low; below = ap (λ q. list_all (is_below q) f.vrps.items) low ∙ b.below; from = (λ i. list_all (is_from (low i)) (same i)) ∙ b.from }) F here.around.before;
      across = here.around.across;
      here = ap (is_rising vrp_cmp) same ∙ here.around.here;
      after = each_mono (IsBefore s) (IsBefore t) (λ g b. record { low = ap (λ q. is_lt (prefix_cmp q g.low)) low ∙ b.low; below = ap (list_all (is_below g.low)) same ∙ b.below; from = b.from }) G here.around.after;
      back = here.around.back;
    }))

    pub same_all_at : all_of (set ss k t) ≡ all_of ss
    same_all_at = ap all_of (set_at ss k t home.inside) ∙ all_around F t G ∙ ap (λ l. all_of F ++ (l ++ all_of G)) same ∙ sym (ap all_of whole ∙ all_around F s G)

-- the chunk at a place, where only its payloads are asked for
pub rising_at_place : (ss : List Chunk) (k : ℕ) (s : Chunk) → IsInOrder ss → k < length ss → s ≡ get_or ss k s → IsRising s.vrps.items
rising_at_place [] k s h lt at = absurd (omega (arith, lt))
rising_at_place (x ∷ ss) zero s h lt at = ap (λ (t : Chunk). is_rising vrp_cmp t.vrps.items) at ∙ h.0
rising_at_place (x ∷ ss) (suc k) s h lt at = rising_at_place ss k s h.2 (omega (arith, lt)) at

-- where there is no chunk, nothing is taken out
pub none_taken : (ss : List Chunk) (v : VrpValue) → length ss ≡ 0 → set_of (all_of ss) ≡ taken (set_of (all_of ss)) v
none_taken [] v e = set_take [] [] v (λ q. sym (and_false (not (eq_by_cmp vrp_cmp q v))))
none_taken (s ∷ ss) v e = absurd (omega (arith, e))

-- what holds of each chunk holds of each but one
remove_each : (P : Chunk → Type 0) (ss : List Chunk) (k : ℕ) → AllByRecursion P ss → AllByRecursion P (remove ss k)
remove_each P [] zero h = tt
remove_each P [] (suc k) h = tt
remove_each P (s ∷ ss) zero h = h.1
remove_each P (s ∷ ss) (suc k) h = (h.0, remove_each P ss k h.1)

-- chunks without one of them are in order
pub remove_order : (ss : List Chunk) (k : ℕ) → IsInOrder ss → IsInOrder (remove ss k)
remove_order [] zero h = tt
remove_order [] (suc k) h = tt
remove_order (s ∷ ss) zero h = h.2
remove_order (s ∷ ss) (suc k) h = (h.0, remove_each (IsBefore s) ss k h.1, remove_order ss k h.2)

-- chunks without an empty one have the same payloads
pub remove_same : (ss : List Chunk) (k : ℕ) (s : Chunk) → k < length ss → s ≡ get_or ss k s → length s.vrps.items ≡ 0 → all_of (remove ss k) ≡ all_of ss
remove_same [] k s lt at e = absurd (omega (arith, lt))
remove_same (x ∷ ss) zero s lt at e = ap (λ l. l ++ all_of ss) (sym (drop_all 0 s.vrps.items (omega (arith, e))) ∙ ap (λ (t : Chunk). t.vrps.items) at)
remove_same (x ∷ ss) (suc k) s lt at e = ap (λ l. x.vrps.items ++ l) (remove_same ss k s (omega (arith, lt)) at e)
