-- Chunks that are cut in two, and chunks that are filled one after the other.
use Rattle.std.proofs.Common.{◌≡◌, ℕ, zero, suc, ◌+◌, ◌≤◌, ◌<◌, Bool, true, false, not, List, [], ◌∷◌, ◌++◌, length, take, take-append-drop, drop, get_or, set, refl, sym, ap, subst, ◌∙◌, arith, add-one, append_assoc}
use Rattle.std.specs.List.{insert, list_all, AllByRecursion}
use Rattle.std.proofs.lemmas.List.{drop_more}
use Rattle.std.specs.Cmp.{tied_itself}
use Rattle.std.specs.Ordering.{is_lt}
use Rattle.net_names.specs.Prefixes.{PrefixValue, prefix_cmp}
use Rattle.net_names.specs.Payloads.{VrpValue, vrp_cmp}
use Rattle.net_names.specs.Orders.{prefix_total, exact_prefix}
use Rattle.roa_table.specs.declared.chunk.Chunk.{Chunk}
use Rattle.roa_table.specs.Lists.{IsRising, is_below, is_from, are_apart, IsPart}
use Rattle.roa_table.specs.Chunks.{all_of, IsBefore, IsInOrder, TakesLast}
use Rattle.net_names.proofs.Shortening.{both, both_true}
use Rattle.roa_table.proofs.Booleans.{not_true, not-false, list_all_mono, list_all_left, list_all_right, each_mono, each_both}
use Rattle.roa_table.proofs.Rising.{lt_le, rising_left, rising_right}
use Rattle.roa_table.proofs.Placed.{no_lower}
use Rattle.roa_table.proofs.Chunking.{Around, around, in_order, all_of-append, whole_at}

-- the first payload's prefix is the lowest one
head_low : (v : VrpValue) (vs : List VrpValue) → IsRising (v ∷ vs) → list_all (is_from v.prefix) (v ∷ vs) ≡ true
head_low v vs h = both_true _ _ (ap (λ r. not (is_lt r)) (tied_itself prefix_total v.prefix)) (list_all_mono (λ w. is_lt (vrp_cmp v w)) (is_from v.prefix) (λ w e. not-false _ (no_lower v w e)) vs (both _ _ h).left)

-- a chunk of the front of another one's payloads, and one of their rest
pub record AreParts (s t u : Chunk) (n : ℕ) : Type 0 where
  pub part : IsPart s.vrps.items n
  pub inside : n < length s.vrps.items
  pub front : t.vrps.items ≡ take n s.vrps.items
  pub back : u.vrps.items ≡ drop n s.vrps.items
  pub low : (d : VrpValue) → t.low ≡ (get_or s.vrps.items 0 d).prefix
  pub next : (d : VrpValue) → u.low ≡ (get_or s.vrps.items n d).prefix

-- what those parts are to each other
record ArePieces (s t u : Chunk) : Type 0 where
  rising : IsRising t.vrps.items
  rising_next : IsRising u.vrps.items
  pair : IsBefore t u
  whole : s.vrps.items ≡ t.vrps.items ++ u.vrps.items
  own : list_all (is_from t.low) t.vrps.items ≡ true
  first : VrpValue
  some : (p : VrpValue → Bool) → list_all p t.vrps.items ≡ true → p first ≡ true
  is_low : first.prefix ≡ t.low
  second : VrpValue
  some_next : (p : VrpValue → Bool) → list_all p u.vrps.items ≡ true → p second ≡ true
  is_next : second.prefix ≡ u.low

pieces : (s t u : Chunk) (n : ℕ) → IsRising s.vrps.items → AreParts s t u n → ArePieces s t u
pieces s t u n h a = by (take n s.vrps.items) (drop n s.vrps.items) a.front a.back (lists n s.vrps.items) (starts n s.vrps.items a.part.some a.inside) (goes_on n s.vrps.items a.inside) a.part.apart
  where
    lists : (k : ℕ) (xs : List VrpValue) → xs ≡ take k xs ++ drop k xs
    lists zero [] = refl
    lists zero (x ∷ xs) = refl
    lists (suc k) [] = refl
    lists (suc k) (x ∷ xs) = ap (λ l. x ∷ l) (lists k xs)

    starts : (k : ℕ) (xs : List VrpValue) → 1 ≤ k → k < length xs → (v : VrpValue) × (vs : List VrpValue) × (take k xs ≡ v ∷ vs) × (v ≡ get_or xs 0 v)
    starts zero xs pos lt = absurd (omega (arith, pos))
    starts (suc k) [] pos lt = absurd (omega (arith, lt))
    starts (suc k) (x ∷ xs) pos lt = (x, take k xs, refl, refl)

    goes_on : (k : ℕ) (xs : List VrpValue) → k < length xs → (v : VrpValue) × (vs : List VrpValue) × (drop k xs ≡ v ∷ vs) × (v ≡ get_or xs k v)
    goes_on k [] lt = absurd (omega (arith, lt))
    goes_on zero (x ∷ xs) lt = (x, xs, refl, refl)
    goes_on (suc k) (x ∷ xs) lt = goes_on k xs (omega (arith, lt))

    by : (A B : List VrpValue) → t.vrps.items ≡ A → u.vrps.items ≡ B → s.vrps.items ≡ A ++ B → (v : VrpValue) × (vs : List VrpValue) × (A ≡ v ∷ vs) × (v ≡ get_or s.vrps.items 0 v) → (w : VrpValue) × (ws : List VrpValue) × (B ≡ w ∷ ws) × (w ≡ get_or s.vrps.items n w) → are_apart A B ≡ true → ArePieces s t u
    by A B et eu whole x y apart =
        let v = x.0 in
        let w = y.0 in
        let tv : t.vrps.items ≡ v ∷ x.1 = et ∙ x.2 in
        let uw : u.vrps.items ≡ w ∷ y.1 = eu ∙ y.2 in
        let lv : v.prefix ≡ t.low = ap (λ (z : VrpValue). z.prefix) x.3 ∙ sym (a.low v) in
        let lw : w.prefix ≡ u.low = ap (λ (z : VrpValue). z.prefix) y.3 ∙ sym (a.next w) in
        let both_rise : IsRising (A ++ B) = subst IsRising whole h in
        let rt : IsRising t.vrps.items = subst IsRising (sym et) (rising_left vrp_cmp A B both_rise) in
        let ru : IsRising u.vrps.items = subst IsRising (sym eu) (rising_right vrp_cmp A B both_rise) in
        let apart_all : are_apart t.vrps.items u.vrps.items ≡ true = (λ i. are_apart (et i) (eu i)) ∙ apart in
        let below : list_all (is_below u.low) t.vrps.items ≡ true = list_all_mono (λ z. list_all (λ r. is_below r.prefix z) u.vrps.items) (is_below u.low)
        (λ z e. ap (λ p. is_below p z) (sym lw) ∙ (both _ _ (ap (list_all (λ r. is_below r.prefix z)) (sym uw) ∙ e)).left) t.vrps.items apart_all in
        let from : list_all (is_from u.low) u.vrps.items ≡ true = ap (list_all (is_from u.low)) uw ∙ ap (λ p. list_all (is_from p) (w ∷ y.1)) (sym lw) ∙ head_low w y.1 (subst IsRising uw ru) in
        record {
          rising = rt;
          rising_next = ru;
          pair = record {
            low = ap (λ p. is_lt (prefix_cmp p u.low)) (sym lv) ∙ (both _ _ (ap (list_all (is_below u.low)) (sym tv) ∙ below)).left;
            below = below;
            from = from;
          };
          whole = whole ∙ sym (λ i. et i ++ eu i);
          own = ap (list_all (is_from t.low)) tv ∙ ap (λ p. list_all (is_from p) (v ∷ x.1)) (sym lv) ∙ head_low v x.1 (subst IsRising tv rt);
          first = v;
          some = λ p e. (both _ _ (ap (list_all p) (sym tv) ∙ e)).left;
          is_low = lv;
          second = w;
          some_next = λ p e. (both _ _ (ap (list_all p) (sym uw) ∙ e)).left;
          is_next = lw;
        }

abbrev not_less : PrefixValue → PrefixValue → Type 0
not_less p q = is_lt (prefix_cmp p q) ≡ false

-- a piece of a chunk is behind all that are before the chunk
before_piece : (F : List Chunk) (s x : Chunk) → list_all (is_from x.low) x.vrps.items ≡ true → (0 < length F → not_less x.low s.low) → AllByRecursion (λ f. IsBefore f s) F → AllByRecursion (λ f. IsBefore f x) F
before_piece [] s x own le h = tt
before_piece (f ∷ F) s x own le h = (
  record {
    low = lt_le prefix_total exact_prefix f.low s.low x.low h.0.low (le (omega arith));
    below = list_all_mono (is_below s.low) (is_below x.low) (λ v e. lt_le prefix_total exact_prefix v.prefix s.low x.low e (le (omega arith))) f.vrps.items h.0.below;
    from = own;
  },
  before_piece F s x own (λ e. le (omega arith)) h.1,
)

from_before : (F : List Chunk) (s : Chunk) → 0 < length F → AllByRecursion (λ f. IsBefore f s) F → list_all (is_from s.low) s.vrps.items ≡ true
from_before [] s e k = absurd (omega (arith, e))
from_before (f ∷ F) s e k = k.0.from

module _ (F : List Chunk) (s : Chunk) (G : List Chunk) (a : Around F s G) (t u : Chunk) (n : ℕ) (parts : AreParts s t u n) where
  abbrev cut_in : ArePieces s t u
  cut_in = pieces s t u n a.here parts

  low_first : 0 < length F → not_less t.low s.low
  low_first e = ap (λ p. is_lt (prefix_cmp p s.low)) (sym cut_in.is_low)
      ∙ not_true _ (cut_in.some (is_from s.low) (list_all_left (is_from s.low) t.vrps.items u.vrps.items (ap (list_all (is_from s.low)) (sym cut_in.whole) ∙ from_before F s e a.before)))

  low_second : 0 < length F → not_less u.low s.low
  low_second e = ap (λ p. is_lt (prefix_cmp p s.low)) (sym cut_in.is_next)
      ∙ not_true _ (cut_in.some_next (is_from s.low) (list_all_right (is_from s.low) t.vrps.items u.vrps.items (ap (list_all (is_from s.low)) (sym cut_in.whole) ∙ from_before F s e a.before)))

  all_below : (g : Chunk) → IsBefore s g → list_all (is_below g.low) (t.vrps.items ++ u.vrps.items) ≡ true
  all_below g k = ap (list_all (is_below g.low)) (sym cut_in.whole) ∙ k.below

  after_first : (g : Chunk) → IsBefore s g → IsBefore t g
  after_first g k =
      let below = list_all_left (is_below g.low) t.vrps.items u.vrps.items (all_below g k) in
      record { low = ap (λ p. is_lt (prefix_cmp p g.low)) (sym cut_in.is_low) ∙ cut_in.some (is_below g.low) below; below = below; from = k.from }

  after_second : (g : Chunk) → IsBefore s g → IsBefore u g
  after_second g k =
      let below = list_all_right (is_below g.low) t.vrps.items u.vrps.items (all_below g k) in
      record { low = ap (λ p. is_lt (prefix_cmp p g.low)) (sym cut_in.is_next) ∙ cut_in.some_next (is_below g.low) below; below = below; from = k.from }

  -- the chunks are in order after the cut, with the same payloads
  pub cut_order : IsInOrder (F ++ (t ∷ (u ∷ G)))
  cut_order = in_order F t (u ∷ G) (record {
    front = a.front;
    before = before_piece F s t cut_in.own low_first a.before;
    across = each_both (λ f. IsBefore f u) (λ f. AllByRecursion (IsBefore f) G) (λ f. AllByRecursion (IsBefore f) (u ∷ G)) (λ f b c. (b, c)) F (before_piece F s u cut_in.pair.from low_second a.before) a.across;
    here = cut_in.rising;
    after = (cut_in.pair, each_mono (IsBefore s) (IsBefore t) after_first G a.after);
    back = (cut_in.rising_next, each_mono (IsBefore s) (IsBefore u) after_second G a.after, a.back);
  })

  pub cut_same : all_of (F ++ (t ∷ (u ∷ G))) ≡ all_of (F ++ (s ∷ G))
  cut_same = all_of-append F (t ∷ (u ∷ G)) ∙ ap (λ l. all_of F ++ l) (sym (append_assoc t.vrps.items u.vrps.items (all_of G)) ∙ ap (λ l. l ++ all_of G) (sym cut_in.whole)) ∙ sym (all_of-append F (s ∷ G))

-- a chunk put in behind another one, which is changed then
pub set-insert_next : {A : Type 0} (xs : List A) (k : ℕ) (t u : A) → k < length xs → set (insert xs (k + 1) u) k t ≡ take k xs ++ (t ∷ (u ∷ drop (suc k) xs))
set-insert_next {A = A} xs k t u h = ap (λ n. set (insert xs n u) k t) (add-one k) ∙ by xs k h
  where
    by : (ys : List A) (n : ℕ) → n < length ys → set (insert ys (suc n) u) n t ≡ take n ys ++ (t ∷ (u ∷ drop (suc n) ys))
    by [] n h = absurd (omega (arith, h))
    by (y ∷ []) zero h = refl
    by (y ∷ (z ∷ ys)) zero h = refl
    by (y ∷ ys) (suc n) h = ap (λ l. y ∷ l) (by ys n (omega (arith, h)))

-- the chunks after a cut
pub record IsCut (old new : List Chunk) : Type 0 where
  pub order : IsInOrder new
  pub same : all_of new ≡ all_of old

pub cut_at : (ss : List Chunk) (k : ℕ) (s t u : Chunk) (n : ℕ) → IsInOrder ss → k < length ss → s ≡ get_or ss k s → AreParts s t u n → IsCut ss (set (insert ss (k + 1) u) k t)
cut_at ss k s t u n order lt at parts =
    let F = take k ss in
    let G = drop (suc k) ss in
    let whole : ss ≡ F ++ (s ∷ G) = whole_at ss k s lt ∙ ap (λ x. F ++ (x ∷ G)) (sym at) in
    let a : Around F s G = around F s G (subst IsInOrder whole order) in
    let new = set-insert_next ss k t u lt in
    record {
      order = subst IsInOrder (sym new) (cut_order F s G a t u n parts);
      same = ap all_of new ∙ cut_same F s G a t u n parts ∙ ap all_of (sym whole);
    }

-- the chunk and its payloads are above payloads that are still to be put up
pub record IsBehind (front : List VrpValue) (s : Chunk) : Type 0 where
  pub below : list_all (is_below s.low) front ≡ true
  pub from : list_all (is_from s.low) s.vrps.items ≡ true

-- a chunk put before others
module _ (old new : List VrpValue) (t : Chunk) (G : List Chunk) (takes : TakesLast old new t) (rising : IsRising old) (order : IsInOrder G) (behind : AllByRecursion (IsBehind old) G) where
  abbrev first : VrpValue
  first = get_or old takes.at (record { prefix = t.low; max = 0; asn = 0 })

  abbrev more : List VrpValue
  more = drop (takes.at + 1) old

  is_low : first.prefix ≡ t.low
  is_low = sym (takes.low (record { prefix = t.low; max = 0; asn = 0 }))

  back_is : drop takes.at old ≡ first ∷ more
  back_is = drop_more old takes.at (record { prefix = t.low; max = 0; asn = 0 }) takes.within

  joined : take takes.at old ++ drop takes.at old ≡ old
  joined = take-append-drop takes.at old

  both_rise : IsRising (take takes.at old ++ drop takes.at old)
  both_rise = subst IsRising (sym joined) rising

  back_rising : IsRising (drop takes.at old)
  back_rising = rising_right vrp_cmp (take takes.at old) (drop takes.at old) both_rise

  own_from : list_all (is_from t.low) t.vrps.items ≡ true
  own_from = ap (list_all (is_from t.low)) (takes.back ∙ back_is) ∙ ap (λ p. list_all (is_from p) (first ∷ more)) (sym is_low) ∙ head_low first more (subst IsRising back_is back_rising)

  own_below : list_all (is_below t.low) new ≡ true
  own_below = ap (list_all (is_below t.low)) takes.front
      ∙ list_all_mono (λ v. list_all (λ w. is_below w.prefix v) (drop takes.at old)) (is_below t.low) (λ v e. ap (λ p. is_below p v) (sym is_low) ∙ (both _ _ (ap (list_all (λ w. is_below w.prefix v)) (sym back_is) ∙ e)).left) (take takes.at old) takes.apart

  split : (p : VrpValue → Bool) → list_all p old ≡ true → list_all p (take takes.at old ++ drop takes.at old) ≡ true
  split p h = ap (list_all p) joined ∙ h

  before : (u : Chunk) → IsBehind old u → IsBefore t u
  before u k =
      let below : list_all (is_below u.low) (drop takes.at old) ≡ true = list_all_right (is_below u.low) (take takes.at old) (drop takes.at old) (split (is_below u.low) k.below) in
      record {
        low = ap (λ p. is_lt (prefix_cmp p u.low)) (sym is_low) ∙ (both _ _ (ap (list_all (is_below u.low)) (sym back_is) ∙ below)).left;
        below = ap (list_all (is_below u.low)) takes.back ∙ below;
        from = k.from;
      }

  pub put_order : IsInOrder (t ∷ G)
  put_order = (subst IsRising (sym takes.back) back_rising, each_mono (IsBehind old) (IsBefore t) before G behind, order)

  pub put_behind : AllByRecursion (IsBehind new) (t ∷ G)
  put_behind = (
    record { below = own_below; from = own_from },
    each_mono (IsBehind old) (IsBehind new)
        (λ u k. record { below = ap (list_all (is_below u.low)) takes.front ∙ list_all_left (is_below u.low) (take takes.at old) (drop takes.at old) (split (is_below u.low) k.below); from = k.from }) G behind,
  )

  pub put_all : new ++ all_of (t ∷ G) ≡ old ++ all_of G
  put_all = (λ i. takes.front i ++ (takes.back i ++ all_of G)) ∙ sym (append_assoc (take takes.at old) (drop takes.at old) (all_of G)) ∙ ap (λ l. l ++ all_of G) joined

  pub put_rising : IsRising new
  put_rising = subst IsRising (sym takes.front) (rising_left vrp_cmp (take takes.at old) (drop takes.at old) both_rise)
