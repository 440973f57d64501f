-- Two maps of pairs as one.
use Rattle.std.proofs.Common.{◌≡◌, ℕ, ◌+◌, ◌<◌, Bool, true, false, cond, List, [], ◌∷◌, ◌++◌, map, Option, Some, None, IsSome, Result, Ok, Err, IfOk, OnOk, refl, sym, ap, subst, ◌∙◌, if◌then◌else◌}
use Rattle.std.specs.Option.{is_some}
use Rattle.std.specs.Ordering.{nat_cmp, eq_by_cmp, is_eq, ordering_then}
use Rattle.std.specs.declared.cmp.Ordering.{Ordering}
use Rattle.std.specs.declared.cmp.Ordering.TheVariants.{Less, Equal, Greater}
use Rattle.std.specs.FinMap.{find, get, entries, insert, empty, get-entries, get-empty, get-insert, get-from_entries, same_map, len}
use Rattle.std.specs.Option.{option_or}
use Rattle.net_names.specs.Links.{pair_cmp}
use Rattle.net_names.proofs.Pairs.{exact_pair, pairs_total}
use Rattle.caida_reader.specs.Firsts.{FirstMap, with_first, ArePairs}
use Rattle.caida_reader.specs.Marks.{IsMarked}
use Rattle.caida_reader.specs.Runs.{joined, turned, all_turned, AreApart, AreRuns, AreFirsts, Puts}
use Rattle.caida_reader.specs.declared.firsts.First.{First}
use Rattle.caida_reader.proofs.PairLemmas.{same_pair, not_some, no_pairs, one_more}
use Rattle.caida_reader.proofs.Values.{find-append}

pub get-joined : (a b : FirstMap) (q : ℕ × ℕ) → get (joined a b) q ≡ option_or (get a q) (get b q)
get-joined a b q =
    get-from_entries pairs_total (entries a ++ entries b) q ∙ find-append (entries a) (entries b) q
    ∙ ap (λ o. option_or o (find pair_cmp q (entries b))) (sym (get-entries a q)) ∙ ap (option_or (get a q)) (sym (get-entries b q))

then-comm : (r s : Ordering) → is_eq (ordering_then r s) ≡ is_eq (ordering_then s r)
then-comm Less Less = refl
then-comm Less Equal = refl
then-comm Less Greater = refl
then-comm Equal Less = refl
then-comm Equal Equal = refl
then-comm Equal Greater = refl
then-comm Greater Less = refl
then-comm Greater Equal = refl
then-comm Greater Greater = refl

-- pairs tie where they do with their ends exchanged
tie-turned : (a b c d : ℕ) → eq_by_cmp pair_cmp (a, b) (c, d) ≡ eq_by_cmp pair_cmp (b, a) (d, c)
tie-turned a b c d = then-comm (nat_cmp a c) (nat_cmp b d)

find-turned : (es : List ((ℕ × ℕ) × First)) (a b : ℕ) → find pair_cmp (a, b) (map turned es) ≡ find pair_cmp (b, a) es
find-turned [] a b = refl
find-turned (e ∷ es) a b =
    ap (λ t. cond t (Some e.1) (find pair_cmp (a, b) (map turned es))) (tie-turned a b e.0.1 e.0.0)
    ∙ ap (cond (eq_by_cmp pair_cmp (b, a) e.0) (Some e.1)) (find-turned es a b)

pub get-all_turned : (m : FirstMap) (a b : ℕ) → get (all_turned m) (a, b) ≡ get m (b, a)
get-all_turned m a b = get-from_entries pairs_total (map turned (entries m)) (a, b) ∙ find-turned (entries m) a b ∙ sym (get-entries m (b, a))

in_front : (t : Bool) (v : First) (o p : Option First) → option_or (cond t (Some v) o) p ≡ cond t (Some v) (option_or o p)
in_front true v o p = refl
in_front false v o p = refl

behind : (t : Bool) (v : First) (o p : Option First) → (t ≡ true → o ≡ None) → option_or o (cond t (Some v) p) ≡ cond t (Some v) (option_or o p)
behind true v o p none = rw (none refl) refl
behind false v o p none = refl

module _ (a b : FirstMap) (k : ℕ × ℕ) (v : First) where
  pub joined-insert_front : joined (insert a k v) b ≡ insert (joined a b) k v
  joined-insert_front = same_map pairs_total exact_pair _ _ (λ q.
      get-joined (insert a k v) b q ∙ ap (λ o. option_or o (get b q)) (get-insert pairs_total a k v q)
      ∙ in_front (eq_by_cmp pair_cmp q k) v (get a q) (get b q)
      ∙ sym (get-insert pairs_total (joined a b) k v q ∙ ap (cond (eq_by_cmp pair_cmp q k) (Some v)) (get-joined a b q)))

  module _ (none : get a k ≡ None) where
    pub joined-insert_back : joined a (insert b k v) ≡ insert (joined a b) k v
    joined-insert_back = same_map pairs_total exact_pair _ _ (λ q.
        get-joined a (insert b k v) q ∙ ap (option_or (get a q)) (get-insert pairs_total b k v q)
        ∙ behind (eq_by_cmp pair_cmp q k) v (get a q) (get b q) (λ t. ap (get a) (same_pair q k t) ∙ none)
        ∙ sym (get-insert pairs_total (joined a b) k v q ∙ ap (cond (eq_by_cmp pair_cmp q k) (Some v)) (get-joined a b q)))

    by_test : (t : Bool) → joined a (if t then b else insert b k v) ≡ (if t then joined a b else insert (joined a b) k v)
    by_test true = refl
    by_test false = joined-insert_back

    pub joined-with_first : joined a (with_first b k v) ≡ with_first (joined a b) k v
    joined-with_first =
        by_test (is_some (get b k))
        ∙ ap (λ o. if is_some o then joined a b else insert (joined a b) k v) (sym (get-joined a b k ∙ ap (λ o. option_or o (get b k)) none))

pub all_turned-insert : (m : FirstMap) (a b : ℕ) (v : First) → all_turned (insert m (b, a) v) ≡ insert (all_turned m) (a, b) v
all_turned-insert m a b v = same_map pairs_total exact_pair _ _ (λ q.
    get-all_turned (insert m (b, a) v) q.0 q.1 ∙ get-insert pairs_total m (b, a) v (q.1, q.0)
    ∙ ap (λ t. cond t (Some v) (get m (q.1, q.0))) (tie-turned q.1 q.0 b a)
    ∙ sym (get-insert pairs_total (all_turned m) (a, b) v q ∙ ap (cond (eq_by_cmp pair_cmp q (a, b)) (Some v)) (get-all_turned m q.0 q.1)))

still_none : (t : Bool) (v : First) (o p : Option First) → (t ≡ true → p ≡ None) → o ≡ None → IsSome p → cond t (Some v) o ≡ None
still_none true v o p none is some = absurd (not_some p (none refl) some)
still_none false v o p none is some = is

still_apart : (t : Bool) (v : First) (o p : Option First) → (t ≡ true → o ≡ None) → (IsSome p → o ≡ None) → IsSome (cond t (Some v) p) → o ≡ None
still_apart true v o p none apart some = none refl
still_apart false v o p none apart some = apart some

module _ (a b : FirstMap) (k : ℕ × ℕ) (v : First) (apart : AreApart a b) where
  pub apart-insert_front : get b k ≡ None → AreApart (insert a k v) b
  apart-insert_front none q some = get-insert pairs_total a k v q
      ∙ still_none (eq_by_cmp pair_cmp q k) v (get a q) (get b q) (λ t. ap (get b) (same_pair q k t) ∙ none) (apart q some) some

  pub apart-insert_back : get a k ≡ None → AreApart a (insert b k v)
  apart-insert_back none q some =
      still_apart (eq_by_cmp pair_cmp q k) v (get a q) (get b q) (λ t. ap (get a) (same_pair q k t) ∙ none) (apart q) (rw (get-insert pairs_total b k v q) at some)

abbrev nothing : FirstMap
nothing = empty

pub joined-empty : joined empty empty ≡ empty
joined-empty = same_map pairs_total exact_pair _ _ (λ q. get-joined empty empty q ∙ ap (λ o. option_or o (get nothing q)) (get-empty {X = First} pair_cmp q))

pub all_turned-empty : all_turned empty ≡ empty
all_turned-empty = same_map pairs_total exact_pair _ _ (λ q. get-all_turned empty q.0 q.1 ∙ get-empty {X = First} pair_cmp (q.1, q.0) ∙ sym (get-empty {X = First} pair_cmp q))

-- where neither map has a pair
none_of : (o p : Option First) → option_or o p ≡ None → (o ≡ None) × (p ≡ None)
none_of None p is = (refl, is)
none_of (Some x) p is = cc

pub none_of_joined : (a b : FirstMap) (k : ℕ × ℕ) → get (joined a b) k ≡ None → (get a k ≡ None) × (get b k ≡ None)
none_of_joined a b k is = none_of (get a k) (get b k) (sym (get-joined a b k) ∙ is)

pub get_front : (a b : FirstMap) (k : ℕ × ℕ) (x : First) → get a k ≡ Some x → get (joined a b) k ≡ Some x
get_front a b k x is = get-joined a b k ∙ ap (λ o. option_or o (get b k)) is

pub get_back : (a b : FirstMap) (k : ℕ × ℕ) → get a k ≡ None → get (joined a b) k ≡ get b k
get_back a b k none = get-joined a b k ∙ ap (λ o. option_or o (get b k)) none

pub no_runs : (marks : List ℕ) → AreRuns empty empty marks
no_runs marks = record {
  apart = λ q some. get-empty {X = First} pair_cmp q;
  marked = λ q some. absurd (not_some (get nothing q) (get-empty pair_cmp q) some);
}

marked_more : (t : Bool) (v : First) (o : Option First) (P : Type 0) → (t ≡ true → P) → (IsSome o → P) → IsSome (cond t (Some v) o) → P
marked_more true v o P new old some = new refl
marked_more false v o P new old some = old some

-- a pair more of those that rise
pub rising_more : (rising exchanged : FirstMap) (marks more : List ℕ) (k : ℕ × ℕ) (v : First) → AreRuns rising exchanged marks → get (all_turned exchanged) k ≡ None
    → IsMarked more k → ((q : ℕ × ℕ) → IsMarked marks q → IsMarked more q) → AreRuns (insert rising k v) exchanged more
rising_more rising exchanged marks more k v are none new kept = record {
  apart = apart-insert_front rising (all_turned exchanged) k v are.apart none;
  marked = λ q some. marked_more (eq_by_cmp pair_cmp q k) v (get rising q) (IsMarked more q) (λ t. subst (IsMarked more) (sym (same_pair q k t)) new) (λ old. kept q (are.marked q old))
      (rw (get-insert pairs_total rising k v q) at some);
}

-- a pair more of those with exchanged ends
pub turned_more : (rising exchanged : FirstMap) (marks : List ℕ) (lo hi : ℕ) (v : First) → AreRuns rising exchanged marks → get rising (lo, hi) ≡ None → AreRuns rising (insert exchanged (hi, lo) v) marks
turned_more rising exchanged marks lo hi v are none = record {
  apart = subst (AreApart rising) (sym (all_turned-insert exchanged lo hi v)) (apart-insert_back rising (all_turned exchanged) (lo, hi) v are.apart none);
  marked = are.marked;
}

-- a pair that stands gives nothing new, and another one does
stands : (m : FirstMap) (k : ℕ × ℕ) (x v : First) → get m k ≡ Some x → m ≡ with_first m k v
stands m k x v is = ap (λ o. if is_some o then m else insert m k v) (sym is)

missing : (m : FirstMap) (k : ℕ × ℕ) (v : First) → get m k ≡ None → insert m k v ≡ with_first m k v
missing m k v is = ap (λ o. if is_some o then m else insert m k v) (sym is)

apart-with_first : (a b : FirstMap) (k : ℕ × ℕ) (v : First) → AreApart a b → get a k ≡ None → AreApart a (with_first b k v)
apart-with_first a b k v apart none = by_test (is_some (get b k))
  where
    by_test : (t : Bool) → AreApart a (if t then b else insert b k v)
    by_test true = apart
    by_test false = apart-insert_back a b k v apart none

module _ (a b : FirstMap) (k : ℕ × ℕ) (v : First) (apart : AreApart a b) where
  -- the pair stands
  pub puts_stood : (x : First) → get (joined a b) k ≡ Some x → Puts a b k v a b (Some x)
  puts_stood x is = record { value = sym is; after = stands (joined a b) k x v is; apart = apart }

  -- it is put in front
  pub puts_front : get a k ≡ None → get b k ≡ None → Puts a b k v (insert a k v) b None
  puts_front front back =
      let none = get_back a b k front ∙ back in
      record { value = sym none; after = joined-insert_front a b k v ∙ missing (joined a b) k v none; apart = apart-insert_front a b k v apart back }

  -- it is put behind, unless it stands there
  pub puts_back : {E : Type 0} (none : get a k ≡ None) (new : FirstMap) (r : Result (Option First) E) → IfOk r (λ first. first ≡ get b k) → OnOk r (new ≡ with_first b k v) → IfOk r (Puts a b k v a new)
  puts_back none new (Ok first) value after = record {
    value = value ∙ sym (get_back a b k none);
    after = ap (joined a) after ∙ joined-with_first a b k v none;
    apart = subst (AreApart a) (sym after) (apart-with_first a b k v apart none);
  }
  puts_back none new (Err e) value after = tt

pub no_firsts : AreFirsts empty empty 0
no_firsts = record { apart = λ q some. get-empty {X = First} pair_cmp q; pairs = rw joined-empty no_pairs }

-- a pair more
pub firsts_more : (a b new_a new_b : FirstMap) (count lo hi : ℕ) (v : First) → AreFirsts a b count → lo < hi → len (joined a b) < 1500000 → Puts a b (lo, hi) v new_a new_b None → AreFirsts new_a new_b (count + 1)
firsts_more a b new_a new_b count lo hi v are lower room puts = record {
  apart = puts.apart;
  pairs = subst (λ m. ArePairs m (count + 1)) (missing (joined a b) (lo, hi) v (sym puts.value) ∙ sym puts.after)
      (one_more (joined a b) count lo hi v are.pairs lower (sym puts.value) (rw are.pairs.counted room));
}

-- a pair that stood
pub firsts_stood : (a b new_a new_b : FirstMap) (count : ℕ) (k : ℕ × ℕ) (x v : First) → AreFirsts a b count → Puts a b k v new_a new_b (Some x) → AreFirsts new_a new_b count
firsts_stood a b new_a new_b count k x v are puts = record {
  apart = puts.apart;
  pairs = subst (λ m. ArePairs m count) (stands (joined a b) k x v (sym puts.value) ∙ sym puts.after) are.pairs;
}
