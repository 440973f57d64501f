-- Links that are put in one after the other, in any order.
use Rattle.std.proofs.Common.{◌≡◌, ℕ, ◌+◌, ◌<◌, Bool, true, false, ◌||◌, cond, List, [], ◌∷◌, ◌++◌, length, map, take, get_or, All, Contains, Option, Some, None, IsSome, refl, sym, ap, ◌∙◌, if◌then◌else◌}
use Rattle.std.specs.Cmp.{tied_itself}
use Rattle.std.specs.List.{list_any}
use Rattle.std.specs.List.Sorted.{IsPermutation}
use Rattle.std.specs.Ordering.{eq_by_cmp, is_eq}
use Rattle.std.specs.FinMap as fin
use Rattle.std.proofs.lemmas.Bool.{lt-ltb}
use Rattle.std.proofs.lemmas.List.{take_more, get_or_default}
use Rattle.std.proofs.lemmas.List.Folds.{list_any-append, list_any-from_Any}
use Rattle.std.proofs.lemmas.List.Sorted.{Contains-permutation, IsPermutation-sym}
use Rattle.net_names.specs.Links.{pair_cmp, LinkMap, converse, with_relation}
use Rattle.net_names.specs.declared.routes.Rel.{Rel}
use Rattle.net_names.specs.declared.links.Link.{Link}
use Rattle.net_names.proofs.Pairs.{exact_pair, pairs_total}
use Rattle.caida_reader.specs.Firsts.{FirstMap, relations, ArePairs}
use Rattle.caida_reader.specs.Runs.{Lists}
use Rattle.net_names.specs.LinkLists.{entry_of, map_of, AreLinks}
use Rattle.caida_reader.proofs.Given.{Contains-here, Contains-there}
use Rattle.caida_reader.proofs.PairLemmas.{same_pair}
use Rattle.caida_reader.proofs.LinkLemmas.{get-relations}
use Rattle.caida_reader.proofs.ListLemmas.{some_rel}

pub lists-permuted : (xs ys : List Link) (m : FirstMap) → IsPermutation xs ys → Lists xs m → Lists ys m
lists-permuted xs ys m moved lists lo hi rel = (
  λ h. Contains-permutation xs ys _ moved ((lists lo hi rel).0 h),
  λ h. (lists lo hi rel).1 (Contains-permutation ys xs _ (IsPermutation-sym xs ys moved) h),
)

pub lists-lower : (xs : List Link) (m : FirstMap) (count : ℕ) → Lists xs m → ArePairs m count → All (λ l. l.lo < l.hi) xs
lists-lower xs m count lists pairs k d inside =
    let l : Link = get_or xs k d in
    let there = (lists l.lo l.hi l.rel).1 (k, inside, get_or_default xs k l d inside) in
    pairs.lower (l.lo, l.hi) (some_rel (fin.get m (l.lo, l.hi)) l.rel (sym (get-relations m (l.lo, l.hi)) ∙ there))

-- whether one of the links is that of the pair
abbrev pub is_among : ℕ × ℕ → List Link → Bool
is_among pair links = list_any (λ l. eq_by_cmp pair_cmp pair (l.lo, l.hi)) links

put_in : (t b : Bool) (rel : Rel) (o : Option Rel) → (t ≡ true → o ≡ Some rel) → cond t (Some rel) (cond b o None) ≡ cond (b || (t || false)) o None
put_in true true rel o is = sym (is refl)
put_in true false rel o is = sym (is refl)
put_in false true rel o is = refl
put_in false false rel o is = refl

at_end : (b : Bool) (o : Option Rel) → (IsSome o → b ≡ true) → cond b o None ≡ o
at_end true o h = refl
at_end false None h = refl
at_end false (Some rel) h = let never : false ≡ true = h refl in cc

module _ (xs : List Link) (m : FirstMap) (lists : Lists xs m) where
  -- a link more
  pub one_set : (links : LinkMap) (i : ℕ) (l : Link) → i < length xs → l ≡ get_or xs i l → l.lo < l.hi → ((pair : ℕ × ℕ) → fin.get links pair ≡ cond (is_among pair (take i xs)) (fin.get (relations m) pair) None)
      → (pair : ℕ × ℕ) → fin.get (with_relation links l.lo l.hi l.rel) pair ≡ cond (is_among pair (take (i + 1) xs)) (fin.get (relations m) pair) None
  one_set links i l inside is lower so_far pair =
      let here : fin.get (relations m) (l.lo, l.hi) ≡ Some l.rel = (lists l.lo l.hi l.rel).1 (i, inside, sym is) in
      ap (λ b. fin.get (if b then fin.insert links (l.lo, l.hi) l.rel else fin.insert links (l.hi, l.lo) (converse l.rel)) pair) (lt-ltb l.lo l.hi lower)
      ∙ fin.get-insert pairs_total links (l.lo, l.hi) l.rel pair
      ∙ ap (cond (eq_by_cmp pair_cmp pair (l.lo, l.hi)) (Some l.rel)) (so_far pair)
      ∙ put_in (eq_by_cmp pair_cmp pair (l.lo, l.hi)) (is_among pair (take i xs)) l.rel (fin.get (relations m) pair) (λ t. ap (fin.get (relations m)) (same_pair pair (l.lo, l.hi) t) ∙ here)
      ∙ ap (λ b. cond b (fin.get (relations m) pair) None) (sym (ap (is_among pair) (take_more xs i l inside ∙ ap (λ (d : Link). take i xs ++ d ∷ []) (sym is)) ∙ list_any-append (λ (d : Link). eq_by_cmp pair_cmp pair (d.lo, d.hi)) (take i xs) (l ∷ [])))

  among : (pair : ℕ × ℕ) (o : Option Rel) → fin.get (relations m) pair ≡ o → IsSome o → is_among pair xs ≡ true
  among pair None is some = cc
  among pair (Some rel) is some =
      let listed = (lists pair.0 pair.1 rel).0 is in
      list_any-from_Any (λ (l : Link). eq_by_cmp pair_cmp pair (l.lo, l.hi)) xs (listed.0, record { lo = pair.0; hi = pair.1; rel = rel }, listed.1, listed.2, ap is_eq (tied_itself pairs_total pair))

  -- all links
  pub all_set : (links : LinkMap) → ((pair : ℕ × ℕ) → fin.get links pair ≡ cond (is_among pair xs) (fin.get (relations m) pair) None) → links ≡ relations m
  all_set links so_far = fin.same_map pairs_total exact_pair _ _ (λ pair. so_far pair ∙ at_end (is_among pair xs) (fin.get (relations m) pair) (λ some. among pair (fin.get (relations m) pair) refl some))

-- ---- a list whose pairs rise

in_front : (t b : Bool) (rel : Rel) (o : Option Rel) → (t ≡ true → o ≡ Some rel) → cond t (Some rel) (cond b o None) ≡ cond (t || b) o None
in_front true b rel o is = sym (is refl)
in_front false b rel o is = refl

find_among : (xs : List Link) (m : FirstMap) → ((l : Link) → Contains xs l → fin.get (relations m) (l.lo, l.hi) ≡ Some l.rel) → (pair : ℕ × ℕ) → fin.find pair_cmp pair (map entry_of xs) ≡ cond (is_among pair xs) (fin.get (relations m) pair) None
find_among [] m says pair = refl
find_among (x ∷ xs) m says pair =
    ap (cond (eq_by_cmp pair_cmp pair (x.lo, x.hi)) (Some x.rel)) (find_among xs m (λ l h. says l (Contains-there x l xs h)) pair)
    ∙ in_front (eq_by_cmp pair_cmp pair (x.lo, x.hi)) (is_among pair xs) x.rel (fin.get (relations m) pair) (λ t. ap (fin.get (relations m)) (same_pair pair (x.lo, x.hi) t) ∙ says x (Contains-here x xs))

pub all_rising : (xs : List Link) (m : FirstMap) → Lists xs m → AreLinks xs → map_of xs ≡ relations m
all_rising xs m lists w = all_set xs m lists (map_of xs) (λ pair. fin.get-from_sorted pair_cmp (map entry_of xs) pair w.rising ∙ find_among xs m (λ l h. (lists l.lo l.hi l.rel).1 h) pair)
