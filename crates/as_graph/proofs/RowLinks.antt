-- The links that rows make are those that the rows show.
use Rattle.std.proofs.Common.{◌≡◌, inl, inr, ℕ, ◌<◌, ◌≤◌, Bool, true, false, ◌&&◌, ◌==◌, cond, nat_lt, nat_eq, Option, Some, None, is_some, option_map, true≢false, List, [], ◌∷◌, ◌++◌, refl, sym, ◌∙◌, ap, subst, arith}
use Rattle.std.proofs.lemmas.Bool.{cases_Bool, ltb-true, ltb-false, lt-ltb, eqb-true}
use Rattle.std.proofs.lemmas.Bool.Decides.{nat_tests}
use Rattle.std.specs.Ordering.{nat_cmp, eq_by_cmp}
use Rattle.std.specs.Cmp.{unsigned_tied}
use Rattle.std.specs.List.{IsDistinct, AllByRecursion}
use Rattle.std.specs.Map.{lookup, keys_of}
use Rattle.std.specs.Option.{option_map_or}
use Rattle.std.specs.FinMap as map
use Rattle.std.proofs.lemmas.Map.Keys.{IsDistinct-head, IsDistinct-tail}
use Rattle.indexmap.specs.IndexMap.{IsUnique}
use Rattle.net_names.specs.declared.routes.Rel.{Rel}
use Rattle.net_names.specs.Links.{pair_cmp, converse}
use Rattle.as_graph.specs.declared.neighbour.Neighbour.{Neighbour}
use Rattle.as_graph.specs.declared.row.Row.{Row}
use Rattle.as_graph.specs.Topology.{relation}
use Rattle.as_graph.specs.Rows.{rel_in}
use Rattle.as_graph.specs.Graphs.{Rows, rel_of, upper_links, row_links, links_of, topology_of, IsGraph}
use Rattle.net_names.proofs.Pairs.{pairs_total}
use Rattle.net_names.proofs.Shared.{then_tied}

-- two pairs tie where both numbers are equal
pub pair_tied : (p q : ℕ × ℕ) → eq_by_cmp pair_cmp p q ≡ (nat_eq p.0 q.0 && nat_eq p.1 q.1)
pair_tied p q = then_tied (nat_cmp p.0 q.0) (nat_cmp p.1 q.1) ∙ (λ i. unsigned_tied p.0 q.0 i && unsigned_tied p.1 q.1 i)

-- the first that is there
abbrev pub first_some : Option Rel → Option Rel → Option Rel
first_some None y = y
first_some (Some x) y = Some x

find-append : (xs ys : List ((ℕ × ℕ) × Rel)) (q : ℕ × ℕ) → map.find pair_cmp q (xs ++ ys) ≡ first_some (map.find pair_cmp q xs) (map.find pair_cmp q ys)
find-append [] ys q = refl
find-append (e ∷ xs) ys q = by (eq_by_cmp pair_cmp q e.0) (find-append xs ys q)
  where
    by : (t : Bool) → map.find pair_cmp q (xs ++ ys) ≡ first_some (map.find pair_cmp q xs) (map.find pair_cmp q ys) → cond t (Some e.1) (map.find pair_cmp q (xs ++ ys)) ≡ first_some (cond t (Some e.1) (map.find pair_cmp q xs)) (map.find pair_cmp q ys)
    by true h = refl
    by false h = h

-- of a row's links, the one to a higher neighbour
upper_step : (up mine this : Bool) (r : Rel) (rest : Option Rel) → (mine ≡ true → this ≡ true → up ≡ true) →
    cond up (cond (mine && this) (Some r) (cond mine rest None)) (cond mine rest None) ≡ cond mine (cond this (Some r) rest) None
upper_step true true true r rest h = refl
upper_step true true false r rest h = refl
upper_step true false this r rest h = refl
upper_step false true true r rest h = (let no : false ≡ true = h refl refl in cc)
upper_step false true false r rest h = refl
upper_step false false this r rest h = refl

find_cond : (up : Bool) (e : (ℕ × ℕ) × Rel) (es : List ((ℕ × ℕ) × Rel)) (q : ℕ × ℕ) → map.find pair_cmp q (cond up (e ∷ es) es) ≡ cond up (cond (eq_by_cmp pair_cmp q e.0) (Some e.1) (map.find pair_cmp q es)) (map.find pair_cmp q es)
find_cond true e es q = refl
find_cond false e es q = refl

eqb_sym : (a b : ℕ) → nat_eq a b ≡ (b == a)
eqb_sym a b = grind (arith, nat_tests)

upper_find : (c : ℕ) (ns : List Neighbour) (a b : ℕ) → a < b → map.find pair_cmp (a, b) (upper_links c ns) ≡ cond (nat_eq a c) (rel_in ns b) None
upper_find c [] a b lt = elim (cases_Bool (nat_eq a c)) [ inl e ↦ ap (λ t. cond t (rel_in [] b) None) (sym e) ∙ refl | inr e ↦ sym (ap (λ t. cond t (rel_in [] b) None) e) ]
upper_find c (x ∷ ns) a b lt =
    let rest = upper_find c ns a b lt in
    let up : nat_eq a c ≡ true → (x.asn == b) ≡ true → nat_lt c x.asn ≡ true = λ e f. (let p : a ≡ c = eqb-true a c e in let q : x.asn ≡ b = eqb-true x.asn b f in lt-ltb c x.asn (omega arith)) in
    find_cond (nat_lt c x.asn) ((c, x.asn), x.rel) (upper_links c ns) (a, b)
    ∙ ap (λ f. cond (nat_lt c x.asn) (cond (eq_by_cmp pair_cmp (a, b) (c, x.asn)) (Some x.rel) f) f) rest
    ∙ ap (λ t. cond (nat_lt c x.asn) (cond t (Some x.rel) (cond (nat_eq a c) (rel_in ns b) None)) (cond (nat_eq a c) (rel_in ns b) None)) (pair_tied (a, b) (c, x.asn) ∙ ap (λ t. nat_eq a c && t) (eqb_sym b x.asn))
    ∙ upper_step (nat_lt c x.asn) (nat_eq a c) (x.asn == b) x.rel (rel_in ns b) up

-- none to a lower neighbour
upper_low : (c : ℕ) (ns : List Neighbour) (a b : ℕ) → b ≤ a → map.find pair_cmp (a, b) (upper_links c ns) ≡ None
upper_low c [] a b le = refl
upper_low c (x ∷ ns) a b le = elim (cases_Bool (nat_lt c x.asn)) [
  | inl e ↦
      let up : c < x.asn = ltb-true c x.asn e in
      let no : eq_by_cmp pair_cmp (a, b) (c, x.asn) ≡ false = pair_tied (a, b) (c, x.asn) ∙ grind (arith, nat_tests) in
      find_cond (nat_lt c x.asn) ((c, x.asn), x.rel) (upper_links c ns) (a, b) ∙ ap (λ t. cond t (cond (eq_by_cmp pair_cmp (a, b) (c, x.asn)) (Some x.rel) (map.find pair_cmp (a, b) (upper_links c ns))) (map.find pair_cmp (a, b) (upper_links c ns))) e
      ∙ ap (λ t. cond t (Some x.rel) (map.find pair_cmp (a, b) (upper_links c ns))) no ∙ upper_low c ns a b le
  | inr e ↦ find_cond (nat_lt c x.asn) ((c, x.asn), x.rel) (upper_links c ns) (a, b) ∙ ap (λ t. cond t (cond (eq_by_cmp pair_cmp (a, b) (c, x.asn)) (Some x.rel) (map.find pair_cmp (a, b) (upper_links c ns))) (map.find pair_cmp (a, b) (upper_links c ns))) e ∙ upper_low c ns a b le
]

-- a key that differs from all is not looked up
pub lookup_absent : (es : List (ℕ × Row)) (a : ℕ) → AllByRecursion (λ y. nat_eq a y ≡ false) (keys_of es) → lookup (nat_eq a) es ≡ None
lookup_absent [] a h = refl
lookup_absent (e ∷ es) a h = ap (λ t. cond t (Some e.1) (lookup (nat_eq a) es)) h.0 ∙ lookup_absent es a h.1

abbrev pub items_at : Option Row → List Neighbour
items_at o = option_map_or (λ (r : Row). r.neighbours.items) o []

rows_find : (es : List (ℕ × Row)) → IsDistinct nat_eq (keys_of es) → (a b : ℕ) → a < b → map.find pair_cmp (a, b) (row_links es) ≡ rel_in (items_at (lookup (nat_eq a) es)) b
rows_find [] d a b lt = refl
rows_find (e ∷ es) d a b lt =
    find-append (upper_links e.0 e.1.neighbours.items) (row_links es) (a, b)
    ∙ (λ i. first_some (upper_find e.0 e.1.neighbours.items a b lt i) (rows_find es (IsDistinct-tail nat_eq e.0 (keys_of es) d) a b lt i))
    ∙ by (nat_eq a e.0) refl
  where
    first_only : (x : Option Rel) → first_some x None ≡ x
    first_only None = refl
    first_only (Some x) = refl

    by : (t : Bool) → nat_eq a e.0 ≡ t → first_some (cond t (rel_in e.1.neighbours.items b) None) (rel_in (items_at (lookup (nat_eq a) es)) b) ≡ rel_in (items_at (cond t (Some e.1) (lookup (nat_eq a) es))) b
    by true is =
        let none : lookup (nat_eq a) es ≡ None = lookup_absent es a (subst (λ k. AllByRecursion (λ y. nat_eq k y ≡ false) (keys_of es)) (sym (eqb-true a e.0 is)) (IsDistinct-head nat_eq e.0 (keys_of es) d)) in
        ap (λ o. first_some (rel_in e.1.neighbours.items b) (rel_in (items_at o) b)) none ∙ first_only (rel_in e.1.neighbours.items b)
    by false is = refl

rows_low : (es : List (ℕ × Row)) (a b : ℕ) → b ≤ a → map.find pair_cmp (a, b) (row_links es) ≡ None
rows_low [] a b le = refl
rows_low (e ∷ es) a b le = find-append (upper_links e.0 e.1.neighbours.items) (row_links es) (a, b)
    ∙ (λ i. first_some (upper_low e.0 e.1.neighbours.items a b le i) (rows_low es a b le i))

-- at a pair, lower first, what the row of the lower says
pub get-links_of : (m : Rows) → IsUnique nat_eq m → (q : ℕ × ℕ) → map.get (links_of m) q ≡ cond (nat_lt q.0 q.1) (rel_of m q.0 q.1) None
get-links_of m unique q = map.get-from_entries pairs_total (row_links m.entries) q ∙ elim (cases_Bool (nat_lt q.0 q.1)) [
  | inl e ↦ rows_find m.entries unique q.0 q.1 (ltb-true q.0 q.1 e) ∙ sym (ap (λ t. cond t (rel_of m q.0 q.1) None) e)
  | inr e ↦ rows_low m.entries q.0 q.1 (ltb-false q.0 q.1 e) ∙ sym (ap (λ t. cond t (rel_of m q.0 q.1) None) e)
]

-- each link of rows stands at the pair with the lower AS first
pub links_of-lower : (m : Rows) → IsUnique nat_eq m → (q : ℕ × ℕ) (r : Rel) → map.get (links_of m) q ≡ Some r → q.0 < q.1
links_of-lower m unique q r got = elim (cases_Bool (nat_lt q.0 q.1)) [
  | inl e ↦ ltb-true q.0 q.1 e
  | inr e ↦ absurd (true≢false (ap is_some (sym got ∙ get-links_of m unique q ∙ ap (λ t. cond t (rel_of m q.0 q.1) None) e)))
]

-- what the topology says of two ASes, the row of the first says
pub relation-topology_of : (m : Rows) → IsGraph m → (a b : ℕ) → relation (topology_of m) a b ≡ rel_of m a b
relation-topology_of m graph a b =
    (λ i. cond (nat_lt a b) (get-links_of m graph.unique (a, b) i) (cond (nat_lt b a) (option_map converse (get-links_of m graph.unique (b, a) i)) None))
    ∙ by (nat_lt a b) (nat_lt b a) refl refl
  where
    by : (x y : Bool) → nat_lt a b ≡ x → nat_lt b a ≡ y → cond x (cond x (rel_of m a b) None) (cond y (option_map converse (cond y (rel_of m b a) None)) None) ≡ rel_of m a b
    by true y e f = refl
    by false true e f = sym (graph.alike b a)
    by false false e f =
        let p : b ≤ a = ltb-false a b e in
        let q : a ≤ b = ltb-false b a f in
        let same : a ≡ b = omega arith in
        sym (ap (λ k. rel_of m a k) (sym same) ∙ graph.apart a)
