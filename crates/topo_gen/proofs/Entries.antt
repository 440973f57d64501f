-- Linked pairs as a finite map, whose entries a tree keeps in their rising order.
use Rattle.std.proofs.Common.{◌≡◌, ℕ, ◌<◌, ◌≤◌, nat_lt, Bool, true, false, cond, T, List, [], ◌∷◌, map, length, Option, Some, None, IsSome, is_some, refl, sym, ap, subst, ◌∙◌, if◌then◌else◌}
use Rattle.std.specs.Cmp.{eq_by_cmp_equiv, tied_itself}
use Rattle.std.specs.FinMap as fin
use Rattle.std.specs.List.{list_all}
use Rattle.std.specs.List.Sorted.{IsStrictlySortedBy}
use Rattle.std.specs.Map.{keys_of, lookup}
use Rattle.std.specs.Ordering.{eq_by_cmp, is_eq}
use Rattle.std.specs.BTreeMap.{is_at}
use Rattle.std.proofs.lemmas.Bool.{lt-ltb}
use Rattle.std.proofs.lemmas.List.{length-map}
use Rattle.net_names.specs.Links.{pair_cmp, LinkMap}
use Rattle.net_names.specs.LinkLists.{entry_of, map_of, AreLinks}
use Rattle.net_names.specs.declared.links.Link.{Link}
use Rattle.net_names.specs.declared.links.TheConstants.{MOST_LINKS}
use Rattle.net_names.specs.declared.routes.Rel.{Rel}
use Rattle.net_names.proofs.Pairs.{exact_pair, pairs_total}
use Rattle.net_names.proofs.Rising.{rises_strictly}
use Rattle.topo_gen.specs.Drawn.{joined}
use Rattle.topo_gen.specs.Rising.{AreRising}
pub use Rattle.net_names.proofs.Shared.{is_equal as equal}

abbrev pub Entry : Type 0
Entry = (ℕ × ℕ) × Rel

abbrev pub map_with : List Entry → LinkMap
map_with es = fin.from_entries es

-- what the entries have at a pair
abbrev rel_at : List Entry → ℕ × ℕ → Option Rel
rel_at es q = lookup (is_at (pair_cmp q)) es

find_pair : (es : List Entry) (q : ℕ × ℕ) → fin.find pair_cmp q es ≡ rel_at es q
find_pair [] q = refl
find_pair (e ∷ es) q = ap (cond (is_at (pair_cmp q) e.0) (Some e.1)) (find_pair es q)

get_pair : (es : List Entry) (q : ℕ × ℕ) → fin.get (map_with es) q ≡ rel_at es q
get_pair es q = fin.get-from_entries pairs_total es q ∙ find_pair es q

-- fs have this at the pair, and else what es have
abbrev Puts : List Entry → List Entry → ℕ × ℕ → Rel → Type 0
Puts es fs s rel = (q : ℕ × ℕ) → rel_at fs q ≡ cond (is_at (pair_cmp s) q) (Some rel) (rel_at es q)

one_put : (es fs : List Entry) (s : ℕ × ℕ) (rel : Rel) → Puts es fs s rel → map_with fs ≡ fin.insert (map_with es) s rel
one_put es fs s rel h = fin.same_map pairs_total exact_pair _ _ (λ q.
    get_pair fs q ∙ h q ∙ ap (λ b. cond b (Some rel) (rel_at es q)) ((eq_by_cmp_equiv pairs_total).symm s q)
    ∙ sym (fin.get-insert pairs_total (map_with es) s rel q ∙ ap (cond (eq_by_cmp pair_cmp q s) (Some rel)) (get_pair es q)))

joined_by : (lo hi : ℕ) (rel : Rel) (es : List Entry) (b : Bool) → lo < hi → b ≡ is_some (rel_at es (lo, hi))
    → joined lo hi rel (map_with es) ≡ (if b then map_with es else fin.insert (map_with es) (lo, hi) rel)
joined_by lo hi rel es b rises is = rw (lt-ltb lo hi rises, get_pair es (lo, hi), ← is) refl

-- a pair that has a link keeps it
pub joined_stands : (lo hi : ℕ) (rel : Rel) (es : List Entry) (b : Bool) → lo < hi → b ≡ is_some (rel_at es (lo, hi)) → b ≡ true → map_with es ≡ joined lo hi rel (map_with es)
joined_stands lo hi rel es b rises is stands = sym (joined_by lo hi rel es b rises is ∙ rw stands refl)

-- another pair gets one
pub joined_new : (lo hi : ℕ) (rel : Rel) (es fs : List Entry) (b : Bool) → lo < hi → b ≡ is_some (rel_at es (lo, hi)) → b ≡ false → Puts es fs (lo, hi) rel → map_with fs ≡ joined lo hi rel (map_with es)
joined_new lo hi rel es fs b rises is new puts = one_put es fs (lo, hi) rel puts ∙ sym (joined_by lo hi rel es b rises is ∙ rw new refl)

none_stands : (o : Option Rel) → o ≡ None → IsSome o → ⊥
none_stands None e h = cc
none_stands (Some rel) e h = cc

pub empty_rises : AreRising fin.empty
empty_rises q h = absurd (none_stands (fin.get fin.empty q) (fin.get-empty pair_cmp q) h)

rising : (b : Bool) (o : Option Rel) (rel : Rel) (q s : ℕ × ℕ) → (b ≡ true → q ≡ s) → (IsSome o → q.0 < q.1) → s.0 < s.1 → IsSome (cond b (Some rel) o) → q.0 < q.1
rising true o rel q s same lower rises h = rw (same refl) rises
rising false o rel q s same lower rises h = lower h

-- one pair more
pub one_more_rises : (lo hi : ℕ) (rel : Rel) (es fs : List Entry) → AreRising (map_with es) → lo < hi → Puts es fs (lo, hi) rel → AreRising (map_with fs)
one_more_rises lo hi rel es fs before rises puts = λ q h.
    let at_once = ap (λ (m : LinkMap). fin.get m q) (one_put es fs (lo, hi) rel puts) ∙ fin.get-insert pairs_total (map_with es) (lo, hi) rel q in
    rising (eq_by_cmp pair_cmp q (lo, hi)) (fin.get (map_with es) q) rel q (lo, hi) (λ t. exact_pair q (lo, hi) (equal (pair_cmp q (lo, hi)) t)) (before q) rises (rw at_once at h)

-- ---- the links of the entries

-- the link of an entry
abbrev pub link_of : Entry → Link
link_of e = record { lo = e.0.0; hi = e.0.1; rel = e.1 }

entries_of : (es : List Entry) → map entry_of (map link_of es) ≡ es
entries_of [] = refl
entries_of (e ∷ es) = ap (λ fs. e ∷ fs) (entries_of es)

from_rising : (es : List Entry) → T (fin.is_sorted pair_cmp es) → fin.from_sorted {R = pair_cmp} es ≡ fin.from_entries es
from_rising es sorted = fin.same_map pairs_total exact_pair _ _ (λ q. fin.get-from_sorted pair_cmp es q sorted ∙ sym (fin.get-from_entries pairs_total es q))

-- the links make the map that the entries make
pub map_of-links : (es : List Entry) → IsStrictlySortedBy pair_cmp (keys_of es) → map_of (map link_of es) ≡ map_with es
map_of-links es h = ap (λ fs. fin.from_sorted {R = pair_cmp} fs) (entries_of es) ∙ from_rising es (rises_strictly pair_cmp es h)

len-map_with : (es : List Entry) → T (fin.is_sorted pair_cmp es) → fin.len (map_with es) ≡ length es
len-map_with es sorted = fin.len-entries (map_with es) ∙ ap (λ (m : LinkMap). length (fin.entries m)) (sym (from_rising es sorted)) ∙ ap length (fin.entries-from_sorted pair_cmp es sorted)

first_found : (b : Bool) (rel : Rel) (o : Option Rel) → b ≡ true → IsSome (cond b (Some rel) o)
first_found true rel o e = refl
first_found false rel o e = cc

later_found : (b : Bool) (rel : Rel) (o : Option Rel) → IsSome o → IsSome (cond b (Some rel) o)
later_found true rel o h = refl
later_found false rel o h = h

all_lower : (es : List Entry) → ((q : ℕ × ℕ) → IsSome (fin.find pair_cmp q es) → q.0 < q.1) → list_all (λ (l : Link). nat_lt l.lo l.hi) (map link_of es) ≡ true
all_lower [] h = refl
all_lower (e ∷ es) h =
    let here : e.0.0 < e.0.1 = h e.0 (first_found (eq_by_cmp pair_cmp e.0 e.0) e.1 (fin.find pair_cmp e.0 es) (ap is_eq (tied_itself pairs_total e.0))) in
    let later = all_lower es (λ q is. h q (later_found (eq_by_cmp pair_cmp q e.0) e.1 (fin.find pair_cmp q es) is)) in
    rw (lt-ltb e.0.0 e.0.1 here) later

-- and are as links have to be
pub are_links : (es : List Entry) → IsStrictlySortedBy pair_cmp (keys_of es) → AreRising (map_with es) → fin.len (map_with es) ≤ MOST_LINKS → AreLinks (map link_of es)
are_links es h rises few =
    let sorted = rises_strictly pair_cmp es h in
    record {
      rising = subst (λ fs. T (fin.is_sorted pair_cmp fs)) (sym (entries_of es)) sorted;
      lower = all_lower es (λ q is. rises q (subst IsSome (sym (fin.get-from_entries pairs_total es q)) is));
      few = rw (length-map es link_of, ← len-map_with es sorted) few;
    }
