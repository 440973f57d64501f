-- The marks and the ASes that rows make.
use Rattle.std.proofs.Common.{◌≡◌, ◌≢◌, ◌⊎◌, inl, inr, ℕ, ◌+◌, ◌<◌, ◌≤◌, Bool, true, false, ◌||◌, ◌&&◌, not, ◌-◌, is_some, ◌==◌, cond, nat_lt, nat_eq, Option, Some, None, option_map, List, [], ◌∷◌, ◌++◌, length, refl, sym, ◌∙◌, ap, subst, arith}
use Rattle.std.proofs.lemmas.Bool.{or_cases, or_left, or_right, ltb-true, lt-ltb, eqb-true, eq-eqb, ne_eqb, true≢false}
use Rattle.std.proofs.lemmas.Bool.Decides.{nat_tests}
use Rattle.std.proofs.lemmas.Cmp.{nat_cmp_total, tied_itself}
use Rattle.std.specs.Ordering.{nat_cmp, eq_by_cmp, is_eq}
use Rattle.std.specs.Cmp.{unsigned_tied, nat_eq_equiv}
use Rattle.std.specs.List.{IsDistinct, AllByRecursion, list_any}
use Rattle.std.specs.List.Sorted.{IsStrictlyIncreasing}
use Rattle.std.specs.Map.{lookup, keys_of}
use Rattle.std.specs.Option.{option_map_or}
use Rattle.std.specs.FinMap as map
use Rattle.std.specs.FinSet as set
use Rattle.std.proofs.lemmas.Map.Keys.{IsDistinct-head, IsDistinct-tail, IsDistinct-from_sorted, sorted_from_strictly_increasing}
use Rattle.indexmap.specs.IndexMap.{get, IsUnique}
use Rattle.net_names.specs.declared.routes.Rel.{Rel}
use Rattle.net_names.specs.Links.{pair_cmp, converse}
use Rattle.net_names.specs.Numbers.{occurs}
use Rattle.as_graph.specs.declared.neighbour.Neighbour.{Neighbour}
use Rattle.as_graph.specs.declared.row.Row.{Row}
use Rattle.as_graph.specs.Topology.{Topology, ases, has, as_count}
use Rattle.as_graph.specs.Rows.{rel_in}
use Rattle.as_graph.specs.Graphs.{Rows, rel_of, is_marked, is_needed, is_there, marked_rows, links_of, topology_of, IsGraph}
use Rattle.net_names.proofs.Pairs.{pairs_total}
use Rattle.as_graph.proofs.Links.{linked_end, relation_mutual, ends_of}
use Rattle.as_graph.proofs.RowLinks.{lookup_absent, get-links_of, relation-topology_of}
pub use Rattle.net_names.proofs.Distinct.{not_in as any_none}
pub use Rattle.net_names.proofs.Shared.{same_test}

-- ---- marks

abbrev pub mark_at : Option Row → Bool
mark_at o = option_map_or (λ (r : Row). r.marked) o false

marked_any : (es : List (ℕ × Row)) → IsDistinct nat_eq (keys_of es) → (a : ℕ) → list_any (λ y. nat_eq y a) (marked_rows es) ≡ mark_at (lookup (nat_eq a) es)
marked_any [] d a = refl
marked_any (e ∷ es) d a = by e.1.marked (nat_eq a e.0) refl refl (marked_any es (IsDistinct-tail nat_eq e.0 (keys_of es) d) a)
  where
    none : nat_eq a e.0 ≡ true → lookup (nat_eq a) es ≡ None
    none is = lookup_absent es a (subst (λ k. AllByRecursion (λ y. nat_eq k y ≡ false) (keys_of es)) (sym (eqb-true a e.0 is)) (IsDistinct-head nat_eq e.0 (keys_of es) d))

    turned : (t : Bool) → nat_eq a e.0 ≡ t → nat_eq e.0 a ≡ t
    turned t h = grind (arith, nat_tests)

    by : (mark mine : Bool) → e.1.marked ≡ mark → nat_eq a e.0 ≡ mine → list_any (λ y. nat_eq y a) (marked_rows es) ≡ mark_at (lookup (nat_eq a) es) →
        list_any (λ y. nat_eq y a) (cond mark (e.0 ∷ marked_rows es) (marked_rows es)) ≡ mark_at (cond mine (Some e.1) (lookup (nat_eq a) es))
    by true true mk is ih = ap (λ b. b || list_any (λ y. nat_eq y a) (marked_rows es)) (turned true is) ∙ sym mk
    by true false mk is ih = ap (λ b. b || list_any (λ y. nat_eq y a) (marked_rows es)) (turned false is) ∙ ih
    by false true mk is ih = ih ∙ ap mark_at (none is) ∙ sym mk
    by false false mk is ih = ih

pub contains-marked : (m : Rows) → IsUnique nat_eq m → (a : ℕ) → set.contains (topology_of m).marked a ≡ is_marked m a
contains-marked m unique a = set.contains-from_list_nat (marked_rows m.entries) a ∙ marked_any m.entries unique a

-- a row that passes a test is there
pub row_tested : (test : Row → Bool) (m : Rows) (a : ℕ) → option_map_or test (get nat_eq m a) false ≡ true → is_some (get nat_eq m a) ≡ true
row_tested test m a h = by (get nat_eq m a) h
  where
    by : (o : Option Row) → option_map_or test o false ≡ true → is_some o ≡ true
    by None e = cc
    by (Some r) e = refl

-- ---- the ASes

any_same : (p q : ℕ → Bool) → ((x : ℕ) → p x ≡ q x) → (xs : List ℕ) → list_any p xs ≡ list_any q xs
any_same p q same [] = refl
any_same p q same (x ∷ xs) = λ i. same x i || any_same p q same xs i

pub occurs-items : (s : set.FinSet nat_cmp) (a : ℕ) → occurs a (set.items s) ≡ set.contains s a
occurs-items s a = any_same (λ y. y == a) (eq_by_cmp nat_cmp a) (λ x. grind (arith, nat_tests, unsigned_tied a x)) (set.items s) ∙ sym (set.contains-items s a)

or_assoc : (a b c : Bool) → (a || (b || c)) ≡ ((a || b) || c)
or_assoc true b c = refl
or_assoc false b c = refl

pub occurs-append : (a : ℕ) (xs ys : List ℕ) → occurs a (xs ++ ys) ≡ (occurs a xs || occurs a ys)
occurs-append a [] ys = refl
occurs-append a (x ∷ xs) ys = ap (λ b. x == a || b) (occurs-append a xs ys) ∙ or_assoc (x == a) (occurs a xs) (occurs a ys)

-- an end of links is that of a pair that is found
abbrev pub IsEndFound : List ((ℕ × ℕ) × Rel) → ℕ → Type 0
IsEndFound es a = (q : ℕ × ℕ) × (r : Rel) × (map.find pair_cmp q es ≡ Some r) × ((q.0 ≡ a) ⊎ (q.1 ≡ a))

pub end_found : (es : List ((ℕ × ℕ) × Rel)) (a : ℕ) → occurs a (ends_of es) ≡ true → IsEndFound es a
end_found [] a h = cc
end_found (e ∷ es) a h = elim (or_cases (e.0.0 == a) (e.0.1 == a || occurs a (ends_of es)) h) [
  | inl this ↦ (e.0, e.1, here, inl (eqb-true e.0.0 a this))
  | inr more ↦ elim (or_cases (e.0.1 == a) (occurs a (ends_of es)) more) [
    | inl this ↦ (e.0, e.1, here, inr (eqb-true e.0.1 a this))
    | inr rest ↦ later (end_found es a rest)
  ]
]
  where
    here : map.find pair_cmp e.0 (e ∷ es) ≡ Some e.1
    here = ap (λ t. cond t (Some e.1) (map.find pair_cmp e.0 es)) (ap is_eq (tied_itself pairs_total e.0))

    at : (t : Bool) (o : Option Rel) (r : Rel) → o ≡ Some r → (s : Rel) × (cond t (Some e.1) o ≡ Some s)
    at true o r is = (e.1, refl)
    at false o r is = (r, is)

    later : IsEndFound es a → IsEndFound (e ∷ es) a
    later (q, r, is, end) = let (s, found) = at (eq_by_cmp pair_cmp q e.0) (map.find pair_cmp q es) r is in (q, s, found, end)

-- an AS with a neighbour has a row with one
neighbour_needed : (o : Option Row) (b : ℕ) (r : Rel) → rel_in (option_map_or (λ (x : Row). x.neighbours.items) o []) b ≡ Some r → option_map_or is_needed o false ≡ true
neighbour_needed None b r h = cc
neighbour_needed (Some x) b r h = or_right x.marked _ (by x.neighbours.items h)
  where
    by : (ns : List Neighbour) → rel_in ns b ≡ Some r → nat_lt 0 (length ns) ≡ true
    by [] h = cc
    by (n ∷ ns) h = lt-ltb 0 (length (n ∷ ns)) (omega arith)

mark_needed : (o : Option Row) → mark_at o ≡ true → option_map_or is_needed o false ≡ true
mark_needed None h = cc
mark_needed (Some x) h = or_left x.marked _ h

-- a row that is needed has a mark or a neighbour
pub needed_parts : (o : Option Row) → option_map_or is_needed o false ≡ true → (mark_at o ≡ true) ⊎ ((n : Neighbour) × (rel_in (option_map_or (λ (x : Row). x.neighbours.items) o []) n.asn ≡ Some n.rel))
needed_parts None h = cc
needed_parts (Some x) h = elim (or_cases x.marked _ h) [ inl e ↦ inl e | inr e ↦ inr (by x.neighbours.items e) ]
  where
    by : (ns : List Neighbour) → nat_lt 0 (length ns) ≡ true → (n : Neighbour) × (rel_in ns n.asn ≡ Some n.rel)
    by [] e = (let no : 0 < 0 = ltb-true 0 0 e in absurd (omega arith))
    by (n ∷ ns) e = (n, ap (λ t. cond t (Some n.rel) (rel_in ns n.asn)) (eq-eqb n.asn n.asn refl))

pub has-topology_of : (m : Rows) → IsGraph m → (a : ℕ) → has (topology_of m) a ≡ is_there m a
has-topology_of m graph a = same_test _ _ needed counted
  where
    found_low : (t : Bool) (o : Option Rel) (r : Rel) → cond t o None ≡ Some r → o ≡ Some r
    found_low true o r h = h
    found_low false o r h = cc

    -- a pair that is found is that of a link
    ends : IsEndFound (map.entries (links_of m)) a → is_there m a ≡ true
    ends (q, r, is, end) =
        let linked : rel_of m q.0 q.1 ≡ Some r = found_low (nat_lt q.0 q.1) (rel_of m q.0 q.1) r (sym (get-links_of m graph.unique q) ∙ map.get-entries (links_of m) q ∙ is) in
        elim end [
          | inl e ↦ subst (λ k. is_there m k ≡ true) e (neighbour_needed (get nat_eq m q.0) q.1 r linked)
          | inr e ↦ subst (λ k. is_there m k ≡ true) e (neighbour_needed (get nat_eq m q.1) q.0 (converse r) (graph.alike q.0 q.1 ∙ ap (option_map converse) linked))
        ]

    needed : has (topology_of m) a ≡ true → is_there m a ≡ true
    needed h = elim (or_cases _ _ (sym (occurs-append a (set.items (topology_of m).marked) (ends_of (map.entries (links_of m)))) ∙ h)) [
      | inl mark ↦ mark_needed (get nat_eq m a) (sym (contains-marked m graph.unique a) ∙ sym (occurs-items (topology_of m).marked a) ∙ mark)
      | inr link ↦ ends (end_found (map.entries (links_of m)) a link)
    ]

    counted : is_there m a ≡ true → has (topology_of m) a ≡ true
    counted h = elim (needed_parts (get nat_eq m a) h) [
      | inl mark ↦ occurs-append a (set.items (topology_of m).marked) _ ∙ or_left _ _ (occurs-items (topology_of m).marked a ∙ contains-marked m graph.unique a ∙ mark)
      | inr (n, is) ↦ linked_end (topology_of m) n.asn a (converse n.rel) (relation_mutual (topology_of m) a n.asn ∙ ap (option_map converse) (relation-topology_of m graph a n.asn ∙ is))
    ]

-- ---- how many there are

pub len-from_list : (ks : List ℕ) → IsDistinct nat_eq ks → set.len (set.from_list {R = nat_cmp} ks) ≡ length ks
len-from_list [] d = set.len-empty nat_cmp
len-from_list (k ∷ ks) d =
    let new : set.contains (set.from_list {R = nat_cmp} ks) k ≡ false = set.contains-from_list_nat ks k ∙ any_none ks k (IsDistinct-head nat_eq k ks d) in
    let rest = len-from_list ks (IsDistinct-tail nat_eq k ks d) in
    set.len-insert nat_cmp_total (set.from_list ks) k ∙ ap (λ t. cond t (set.len (set.from_list {R = nat_cmp} ks)) (set.len (set.from_list {R = nat_cmp} ks) + 1)) new ∙ omega (arith, rest)

-- numbers that rise differ
pub rising_distinct : (ks : List ℕ) → IsStrictlyIncreasing ks → IsDistinct nat_eq ks
rising_distinct ks rising = subst (λ e. IsDistinct e ks) (λ i x y. unsigned_tied x y i) (IsDistinct-from_sorted nat_cmp ks (sorted_from_strictly_increasing ks rising))

-- a list of the ASes without repetition has as many as there are
pub as_count-listed : (g : Topology) (ks : List ℕ) → IsDistinct nat_eq ks → ((a : ℕ) → occurs a ks ≡ has g a) → as_count g ≡ length ks
as_count-listed g ks d listed =
    ap set.len (set.same_set nat_cmp_total set.nat_cmp-IsAntisymmetric _ _ (λ q. set.contains-from_list_nat (ases g) q ∙ sym (listed q) ∙ sym (set.contains-from_list_nat ks q)))
    ∙ len-from_list ks d

-- the numbers of the rows are those that have one
pub occurs-keys : (es : List (ℕ × Row)) (a : ℕ) → occurs a (keys_of es) ≡ is_some (lookup (nat_eq a) es)
occurs-keys [] a = refl
occurs-keys (e ∷ es) a = by (nat_eq a e.0) refl (occurs-keys es a)
  where
    by : (t : Bool) → nat_eq a e.0 ≡ t → occurs a (keys_of es) ≡ is_some (lookup (nat_eq a) es) → (e.0 == a || occurs a (keys_of es)) ≡ is_some (cond t (Some e.1) (lookup (nat_eq a) es))
    by t is ih = ap (λ b. b || occurs a (keys_of es)) (nat_eq_equiv.symm e.0 a ∙ is) ∙ last t ih
      where
        last : (t : Bool) → occurs a (keys_of es) ≡ is_some (lookup (nat_eq a) es) → (t || occurs a (keys_of es)) ≡ is_some (cond t (Some e.1) (lookup (nat_eq a) es))
        last true ih = refl
        last false ih = ih

-- distinct members of a set are at most as many as it has
pub distinct_len : (ks : List ℕ) → IsDistinct nat_eq ks → (s : set.FinSet nat_cmp) → ((x : ℕ) → occurs x ks ≡ true → set.contains s x ≡ true) → length ks ≤ set.len s
distinct_len [] d s h = omega arith
distinct_len (k ∷ ks) d s h =
    let there : set.contains s k ≡ true = h k (or_left (k == k) (occurs k ks) (eq-eqb k k refl)) in
    let rest : length ks ≤ set.len (set.remove s k) = distinct_len ks (IsDistinct-tail nat_eq k ks d) (set.remove s k) (λ x in_ks.
    set.contains-remove nat_cmp_total s k x ∙ both (eq_by_cmp nat_cmp x k) (set.contains s x) (unsigned_tied x k ∙ ne_eqb x k (λ e. true≢false (sym in_ks ∙ ap (λ y. occurs y ks) e ∙ any_none ks k (IsDistinct-head nat_eq k ks d)))) (h x (or_right (k == x) _ in_ks))) in
    let less : set.len (set.remove s k) ≡ set.len s - 1 = set.len-remove nat_cmp_total s k ∙ ap (λ t. cond t (set.len s - 1) (set.len s)) there in
    let some : set.len s ≢ 0 = λ e. true≢false (sym there ∙ ap (λ t. set.contains t k) (set.empty_of_len s e) ∙ set.contains-empty nat_cmp k) in
    omega (arith, rest, less, some)
  where
    both : (a b : Bool) → a ≡ false → b ≡ true → (not a && b) ≡ true
    both true b e f = cc
    both false b e f = f

-- ASes of the graph, each once, are at most as many as there are
pub length-le-as_count : (g : Topology) (ks : List ℕ) → IsDistinct nat_eq ks → ((x : ℕ) → occurs x ks ≡ true → has g x ≡ true) → length ks ≤ as_count g
length-le-as_count g ks d h = distinct_len ks d (set.from_list (ases g)) (λ x in_ks. set.contains-from_list_nat (ases g) x ∙ h x in_ks)
