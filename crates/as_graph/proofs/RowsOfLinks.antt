-- The rows of links: what they say, and that they rise.
use Rattle.std.proofs.Common.{T, ◌≡◌, ◌⊎◌, inl, inr, ℕ, zero, suc, ◌+◌, ◌-◌, ◌<◌, ◌≤◌, Bool, true, false, ◌&&◌, ◌==◌, cond, nat_lt, Option, Some, None, option_map, List, [], ◌∷◌, ◌++◌, length, get_or, refl, sym, ◌∙◌, ap, subst, arith, length-append}
use Rattle.std.proofs.lemmas.Bool.{cases_Bool, cases_lt, ltb-true, ltb-false, lt-ltb, eqb-true, or_left, or_right}
use Rattle.std.proofs.lemmas.Bool.Decides.{nat_tests}
use Rattle.std.proofs.lemmas.List.{get_or_append_left, get_or-append_right}
use Rattle.std.specs.declared.cmp.Ordering.{Ordering}
use Rattle.std.specs.declared.cmp.Ordering.TheVariants.{Less, Equal, Greater}
use Rattle.std.specs.Ordering.{nat_cmp, eq_by_cmp, ordering_then}
use Rattle.std.specs.Cmp.{nat_eq_equiv, ranked}
use Rattle.std.specs.FinMap as map
use Rattle.std.specs.FinMap.Entries.{below_all}
use Rattle.net_names.specs.declared.routes.Rel.{Rel}
use Rattle.net_names.specs.Links.{LinkMap, pair_cmp, converse, between}
use Rattle.net_names.specs.Numbers.{occurs}
use Rattle.as_graph.specs.declared.neighbour.Neighbour.{Neighbour}
use Rattle.as_graph.specs.declared.ends.End.{End}
use Rattle.as_graph.specs.Topology.{as_count, unmarked}
use Rattle.as_graph.specs.Rows.{rel_in, asn_at, blank, IsRising}
use Rattle.as_graph.specs.Ends.{lower_ends, higher_ends, ends_at, row_of, AreTurned, AreByAs}
use Rattle.as_graph.specs.Graphs.{Rows, rel_of, links_of, IsBuilt}
use Rattle.as_graph.specs.Gathering.{AreGathered, HasManyAses}
use Rattle.net_names.proofs.Pairs.{pairs_total, exact_pair}
use Rattle.net_names.proofs.Rising.{less, left, right}
use Rattle.as_graph.proofs.Links.{relation_mutual, relation_self, ends_of}
use Rattle.as_graph.proofs.RowAses.{occurs-append, length-le-as_count}
use Rattle.as_graph.proofs.RowLinks.{first_some, pair_tied, get-links_of}

abbrev Entries : Type 0
Entries = List ((ℕ × ℕ) × Rel)

-- ---- entries in order

-- by the first numbers, and where these are equal by the second
pair_less : (p q : ℕ × ℕ) → pair_cmp p q ≡ Less → (p.0 < q.0) ⊎ ((p.0 ≡ q.0) × (p.1 < q.1))
pair_less p q h = by (nat_cmp p.0 q.0) refl h
  where
    by : (r : Ordering) → nat_cmp p.0 q.0 ≡ r → ordering_then r (nat_cmp p.1 q.1) ≡ Less → (p.0 < q.0) ⊎ ((p.0 ≡ q.0) × (p.1 < q.1))
    by Less e f = inl (ranked p.0 q.0 Less (sym e))
    by Equal e f = inr (ranked p.0 q.0 Equal (sym e), ranked p.1 q.1 Less (sym f))
    by Greater e f = cc

turned_tail : (e : (ℕ × ℕ) × Rel) (es : Entries) → AreTurned (e ∷ es) → AreTurned es
turned_tail e es turned k d lt = turned (suc k) d (omega arith)

turned_head : (e : (ℕ × ℕ) × Rel) (es : Entries) → AreTurned (e ∷ es) → e.0.0 < e.0.1
turned_head e es turned = turned 0 e (omega arith)

-- ---- what the rows say

rel_in-cond : (mine : Bool) (n : Neighbour) (ns : List Neighbour) (b : ℕ) → rel_in (cond mine (n ∷ ns) ns) b ≡ cond mine (cond (n.asn == b) (Some n.rel) (rel_in ns b)) (rel_in ns b)
rel_in-cond true n ns b = refl
rel_in-cond false n ns b = refl

end_step : (mine this up : Bool) (r : Rel) (found : Option Rel) → (mine ≡ true → this ≡ true → up ≡ true) →
    cond mine (cond this (Some r) (cond up found None)) (cond up found None) ≡ cond up (cond (mine && this) (Some r) found) None
end_step true true true r f h = refl
end_step true true false r f h = (let no : false ≡ true = h refl refl in cc)
end_step true false true r f h = refl
end_step true false false r f h = refl
end_step false this true r f h = refl
end_step false this false r f h = refl

-- to a higher AS, what is found at the pair
rel_in-lower : (es : Entries) (a b : ℕ) → AreTurned es → rel_in (ends_at a (lower_ends es)) b ≡ cond (nat_lt a b) (map.find pair_cmp (a, b) es) None
rel_in-lower [] a b turned = elim (cases_Bool (nat_lt a b)) [ inl e ↦ sym (ap (λ t. cond t None None) e) | inr e ↦ sym (ap (λ t. cond t None None) e) ]
rel_in-lower (e ∷ es) a b turned =
    rel_in-cond (e.0.0 == a) (record { asn = e.0.1; rel = e.1 }) (ends_at a (lower_ends es)) b
    ∙ ap (λ f. cond (e.0.0 == a) (cond (e.0.1 == b) (Some e.1) f) f) (rel_in-lower es a b (turned_tail e es turned))
    ∙ end_step (e.0.0 == a) (e.0.1 == b) (nat_lt a b) e.1 (map.find pair_cmp (a, b) es)
    (λ p q. let up : e.0.0 < e.0.1 = turned_head e es turned in let x : e.0.0 ≡ a = eqb-true e.0.0 a p in let y : e.0.1 ≡ b = eqb-true e.0.1 b q in lt-ltb a b (omega arith))
    ∙ ap (λ t. cond (nat_lt a b) (cond t (Some e.1) (map.find pair_cmp (a, b) es)) None) (sym (pair_tied (a, b) e.0 ∙ (λ i. nat_eq_equiv.symm a e.0.0 i && nat_eq_equiv.symm b e.0.1 i)))

turned_step : (up : Bool) (r : Rel) (t : Bool) (f : Option Rel) → cond up (cond t (Some (converse r)) (option_map converse f)) None ≡ cond up (option_map converse (cond t (Some r) f)) None
turned_step true r true f = refl
turned_step true r false f = refl
turned_step false r t f = refl

and_swap : (x y : Bool) → (x && y) ≡ (y && x)
and_swap true true = refl
and_swap true false = refl
and_swap false true = refl
and_swap false false = refl

-- to a lower AS, the converse of what is found at the pair
rel_in-higher : (es : Entries) (a b : ℕ) → AreTurned es → rel_in (ends_at a (higher_ends es)) b ≡ cond (nat_lt b a) (option_map converse (map.find pair_cmp (b, a) es)) None
rel_in-higher [] a b turned = elim (cases_Bool (nat_lt b a)) [ inl e ↦ sym (ap (λ t. cond t None None) e) | inr e ↦ sym (ap (λ t. cond t None None) e) ]
rel_in-higher (e ∷ es) a b turned =
    rel_in-cond (e.0.1 == a) (record { asn = e.0.0; rel = converse e.1 }) (ends_at a (higher_ends es)) b
    ∙ ap (λ f. cond (e.0.1 == a) (cond (e.0.0 == b) (Some (converse e.1)) f) f) (rel_in-higher es a b (turned_tail e es turned))
    ∙ end_step (e.0.1 == a) (e.0.0 == b) (nat_lt b a) (converse e.1) (option_map converse (map.find pair_cmp (b, a) es))
    (λ p q. let up : e.0.0 < e.0.1 = turned_head e es turned in let x : e.0.1 ≡ a = eqb-true e.0.1 a p in let y : e.0.0 ≡ b = eqb-true e.0.0 b q in lt-ltb b a (omega arith))
    ∙ ap (λ t. cond (nat_lt b a) (cond t (Some (converse e.1)) (option_map converse (map.find pair_cmp (b, a) es))) None)
    (and_swap (e.0.1 == a) (e.0.0 == b) ∙ sym (pair_tied (b, a) e.0 ∙ (λ i. nat_eq_equiv.symm b e.0.0 i && nat_eq_equiv.symm a e.0.1 i)))
    ∙ turned_step (nat_lt b a) e.1 (eq_by_cmp pair_cmp (b, a) e.0) (map.find pair_cmp (b, a) es)

rel_in-append : (xs ys : List Neighbour) (b : ℕ) → rel_in (xs ++ ys) b ≡ first_some (rel_in xs b) (rel_in ys b)
rel_in-append [] ys b = refl
rel_in-append (x ∷ xs) ys b = by (x.asn == b) (rel_in-append xs ys b)
  where
    by : (t : Bool) → rel_in (xs ++ ys) b ≡ first_some (rel_in xs b) (rel_in ys b) → cond t (Some x.rel) (rel_in (xs ++ ys) b) ≡ first_some (cond t (Some x.rel) (rel_in xs b)) (rel_in ys b)
    by true h = refl
    by false h = h

-- the row of an AS says what the links say
pub rel_in-row_of : (links : LinkMap) (a b : ℕ) → AreTurned (map.entries links) → rel_in (row_of (map.entries links) a) b ≡ between links a b
rel_in-row_of links a b turned =
    rel_in-append (ends_at a (higher_ends (map.entries links))) (ends_at a (lower_ends (map.entries links))) b
    ∙ (λ i. first_some (rel_in-higher (map.entries links) a b turned i) (rel_in-lower (map.entries links) a b turned i))
    ∙ (λ i. first_some (cond (nat_lt b a) (option_map converse (sym (map.get-entries links (b, a)) i)) None) (cond (nat_lt a b) (sym (map.get-entries links (a, b)) i) None))
    ∙ by (nat_lt a b) (nat_lt b a) refl refl
  where
    first_only : (x : Option Rel) → first_some x None ≡ x
    first_only None = refl
    first_only (Some x) = refl

    by : (x y : Bool) → nat_lt a b ≡ x → nat_lt b a ≡ y → first_some (cond y (option_map converse (map.get links (b, a))) None) (cond x (map.get links (a, b)) None) ≡ cond x (map.get links (a, b)) (cond y (option_map converse (map.get links (b, a))) None)
    by true true e f = (let p : a < b = ltb-true a b e in let q : b < a = ltb-true b a f in absurd (omega arith))
    by true false e f = refl
    by false true e f = first_only _
    by false false e f = refl

-- a pair that is not turned has no entry
find_low : (es : Entries) (a b : ℕ) → AreTurned es → b ≤ a → map.find pair_cmp (a, b) es ≡ None
find_low [] a b turned le = refl
find_low (e ∷ es) a b turned le =
    let up : e.0.0 < e.0.1 = turned_head e es turned in
    let no : eq_by_cmp pair_cmp (a, b) e.0 ≡ false = pair_tied (a, b) e.0 ∙ grind (arith, nat_tests) in
    ap (λ t. cond t (Some e.1) (map.find pair_cmp (a, b) es)) no ∙ find_low es a b (turned_tail e es turned) le

-- ---- that they rise

rising_cons : (x : Neighbour) (xs : List Neighbour) → ((i : ℕ) → i < length xs → x.asn < asn_at xs i) → IsRising xs → IsRising (x ∷ xs)
rising_cons x xs above rising zero zero lt h = absurd (omega arith)
rising_cons x xs above rising zero (suc j) lt h = above j (omega arith)
rising_cons x xs above rising (suc i) zero lt h = absurd (omega arith)
rising_cons x xs above rising (suc i) (suc j) lt h = rising i j (omega arith) (omega arith)

-- what holds of each neighbour at the ends of an AS
each_end : (P : ℕ → Type 0) (a : ℕ) (x : End) (xs : List End) → (x.at ≡ a → P x.neighbour.asn) → ((i : ℕ) → i < length (ends_at a xs) → P (asn_at (ends_at a xs) i)) →
    (i : ℕ) → i < length (ends_at a (x ∷ xs)) → P (asn_at (ends_at a (x ∷ xs)) i)
each_end P a x xs first rest = by (x.at == a) refl
  where
    by : (t : Bool) → (x.at == a) ≡ t → (i : ℕ) → i < length (cond t (x.neighbour ∷ ends_at a xs) (ends_at a xs)) → P (asn_at (cond t (x.neighbour ∷ ends_at a xs) (ends_at a xs)) i)
    by true is zero lt = first (eqb-true x.at a is)
    by true is (suc i) lt = rest i (omega arith)
    by false is i lt = rest i lt

rising_end : (a : ℕ) (x : End) (xs : List End) → (x.at ≡ a → (i : ℕ) → i < length (ends_at a xs) → x.neighbour.asn < asn_at (ends_at a xs) i) → IsRising (ends_at a xs) → IsRising (ends_at a (x ∷ xs))
rising_end a x xs above rest = by (x.at == a) refl
  where
    by : (t : Bool) → (x.at == a) ≡ t → IsRising (cond t (x.neighbour ∷ ends_at a xs) (ends_at a xs))
    by true is = rising_cons x.neighbour (ends_at a xs) (above (eqb-true x.at a is)) rest
    by false is = rest

-- the two ends of a link
abbrev low_end : (ℕ × ℕ) × Rel → End
low_end e = record { at = e.0.0; neighbour = record { asn = e.0.1; rel = e.1 } }

abbrev high_end : (ℕ × ℕ) × Rel → End
high_end e = record { at = e.0.1; neighbour = record { asn = e.0.0; rel = converse e.1 } }

lower_above : (es : Entries) (a b : ℕ) → T (below_all pair_cmp (a, b) es) → (i : ℕ) → i < length (ends_at a (lower_ends es)) → b < asn_at (ends_at a (lower_ends es)) i
lower_above [] a b h = λ i lt. absurd (omega arith)
lower_above (f ∷ es) a b h =
    each_end (λ n. b < n) a (low_end f) (lower_ends es) (λ at. elim (pair_less (a, b) f.0 (less _ (left _ _ h))) [ inl l ↦ absurd (omega (arith, at, l)) | inr r ↦ r.1 ]) (lower_above es a b (right _ _ h))

rising_lower : (es : Entries) (a : ℕ) → T (map.is_sorted pair_cmp es) → IsRising (ends_at a (lower_ends es))
rising_lower [] a h = λ i j lt w. absurd (omega arith)
rising_lower (e ∷ es) a h =
    rising_end a (low_end e) (lower_ends es) (λ at. lower_above es a e.0.1 (subst (λ x. T (below_all pair_cmp (x, e.0.1) es)) at (left _ _ h))) (rising_lower es a (right _ _ h))

higher_above : (es : Entries) (a b : ℕ) → T (below_all pair_cmp (b, a) es) → (i : ℕ) → i < length (ends_at a (higher_ends es)) → b < asn_at (ends_at a (higher_ends es)) i
higher_above [] a b h = λ i lt. absurd (omega arith)
higher_above (f ∷ es) a b h =
    each_end (λ n. b < n) a (high_end f) (higher_ends es) (λ at. elim (pair_less (b, a) f.0 (less _ (left _ _ h))) [ inl l ↦ l | inr r ↦ absurd (omega (arith, at, r.1)) ]) (higher_above es a b (right _ _ h))

rising_higher : (es : Entries) (a : ℕ) → T (map.is_sorted pair_cmp es) → IsRising (ends_at a (higher_ends es))
rising_higher [] a h = λ i j lt w. absurd (omega arith)
rising_higher (e ∷ es) a h =
    rising_end a (high_end e) (higher_ends es) (λ at. higher_above es a e.0.0 (subst (λ x. T (below_all pair_cmp (e.0.0, x) es)) at (left _ _ h))) (rising_higher es a (right _ _ h))

-- lower neighbours are below the AS, and higher ones above
higher_under : (es : Entries) (a : ℕ) → AreTurned es → (i : ℕ) → i < length (ends_at a (higher_ends es)) → asn_at (ends_at a (higher_ends es)) i < a
higher_under [] a turned = λ i lt. absurd (omega arith)
higher_under (e ∷ es) a turned = each_end (λ n. n < a) a (high_end e) (higher_ends es) (λ at. subst (λ x. e.0.0 < x) at (turned_head e es turned)) (higher_under es a (turned_tail e es turned))

lower_over : (es : Entries) (a : ℕ) → AreTurned es → (i : ℕ) → i < length (ends_at a (lower_ends es)) → a < asn_at (ends_at a (lower_ends es)) i
lower_over [] a turned = λ i lt. absurd (omega arith)
lower_over (e ∷ es) a turned = each_end (λ n. a < n) a (low_end e) (lower_ends es) (λ at. subst (λ x. x < e.0.1) at (turned_head e es turned)) (lower_over es a (turned_tail e es turned))

rising_append : (xs ys : List Neighbour) (a : ℕ) → IsRising xs → IsRising ys → ((i : ℕ) → i < length xs → asn_at xs i < a) → ((i : ℕ) → i < length ys → a < asn_at ys i) → IsRising (xs ++ ys)
rising_append xs ys a rx ry under over i j lt h =
    let len : length (xs ++ ys) ≡ length xs + length ys = length-append xs ys in
    let front : (k : ℕ) → k < length xs → asn_at (xs ++ ys) k ≡ asn_at xs k = λ k w. ap (λ (n : Neighbour). n.asn) (get_or_append_left xs ys blank k w) in
    let back : (k : ℕ) → length xs ≤ k → asn_at (xs ++ ys) k ≡ asn_at ys (k - length xs) = λ k w. ap (λ (n : Neighbour). n.asn) (get_or-append_right xs ys (length xs) k blank refl w) in
    elim (cases_lt j (length xs)) [
      | inl jx ↦ omega (arith, front i (omega (arith, lt, jx)), front j jx, rx i j lt jx)
      | inr jy ↦ elim (cases_lt i (length xs)) [
        | inl ix ↦ omega (arith, front i ix, back j jy, under i ix, over (j - length xs) (omega (arith, h, len, jy)))
        | inr iy ↦ omega (arith, back i iy, back j jy, ry (i - length xs) (j - length xs) (omega (arith, lt, iy)) (omega (arith, h, len, jy)))
      ]
    ]

pub rising_row_of : (links : LinkMap) (a : ℕ) → AreTurned (map.entries links) → IsRising (row_of (map.entries links) a)
rising_row_of links a turned =
    let es : Entries = map.entries links in
    rising_append (ends_at a (higher_ends es)) (ends_at a (lower_ends es)) a (rising_higher es a (map.entries_sorted links)) (rising_lower es a (map.entries_sorted links)) (higher_under es a turned) (lower_over es a turned)

lower_from : (es : Entries) (a b : ℕ) → T (below_all pair_cmp (a, b) es) → (k : ℕ) (d : End) → k < length (lower_ends es) → a ≤ (get_or (lower_ends es) k d).at
lower_from [] a b h k d lt = absurd (omega arith)
lower_from (f ∷ es) a b h zero d lt = elim (pair_less (a, b) f.0 (less _ (left _ _ h))) [ inl l ↦ omega (arith, l) | inr r ↦ omega (arith, r.0) ]
lower_from (f ∷ es) a b h (suc k) d lt = lower_from es a b (right _ _ h) k d (omega arith)

by_as_lower : (es : Entries) → T (map.is_sorted pair_cmp es) → AreByAs (lower_ends es)
by_as_lower [] h i j d le lt = absurd (omega arith)
by_as_lower (e ∷ es) h zero zero d le lt = omega arith
by_as_lower (e ∷ es) h zero (suc j) d le lt = lower_from es e.0.0 e.0.1 (left _ _ h) j d (omega arith)
by_as_lower (e ∷ es) h (suc i) zero d le lt = absurd (omega arith)
by_as_lower (e ∷ es) h (suc i) (suc j) d le lt = by_as_lower es (right _ _ h) i j d (omega arith) (omega arith)

pub lower_ends-by_as : (links : LinkMap) → AreByAs (lower_ends (map.entries links))
lower_ends-by_as links = by_as_lower (map.entries links) (map.entries_sorted links)

-- ---- the rows that were gathered

-- an AS with a neighbour at an end is an end
at_higher : (es : Entries) (a : ℕ) → 0 < length (ends_at a (higher_ends es)) → occurs a (ends_of es) ≡ true
at_higher [] a h = absurd (omega arith)
at_higher (e ∷ es) a h = by (e.0.1 == a) refl h (at_higher es a)
  where
    by : (t : Bool) → (e.0.1 == a) ≡ t → 0 < length (cond t (record { asn = e.0.0; rel = converse e.1 } ∷ ends_at a (higher_ends es)) (ends_at a (higher_ends es))) → (0 < length (ends_at a (higher_ends es)) → occurs a (ends_of es) ≡ true) → occurs a (ends_of (e ∷ es)) ≡ true
    by true is h ih = or_right (e.0.0 == a) _ (or_left (e.0.1 == a) _ is)
    by false is h ih = or_right (e.0.0 == a) _ (or_right (e.0.1 == a) _ (ih h))

at_lower : (es : Entries) (a : ℕ) → 0 < length (ends_at a (lower_ends es)) → occurs a (ends_of es) ≡ true
at_lower [] a h = absurd (omega arith)
at_lower (e ∷ es) a h = by (e.0.0 == a) refl h (at_lower es a)
  where
    by : (t : Bool) → (e.0.0 == a) ≡ t → 0 < length (cond t (record { asn = e.0.1; rel = e.1 } ∷ ends_at a (lower_ends es)) (ends_at a (lower_ends es))) → (0 < length (ends_at a (lower_ends es)) → occurs a (ends_of es) ≡ true) → occurs a (ends_of (e ∷ es)) ≡ true
    by true is h ih = or_left (e.0.0 == a) _ is
    by false is h ih = or_right (e.0.0 == a) _ (or_right (e.0.1 == a) _ (ih h))

module _ (links : LinkMap) (hs ls : List End) (turned : AreTurned (map.entries links)) (higher : (a : ℕ) → ends_at a hs ≡ ends_at a (higher_ends (map.entries links))) (lower : ls ≡ lower_ends (map.entries links)) where
  same_row : (a : ℕ) → ends_at a hs ++ ends_at a ls ≡ row_of (map.entries links) a
  same_row a = λ i. higher a i ++ ends_at a (lower i)

  pub rising_rows : (a : ℕ) → IsRising (ends_at a hs ++ ends_at a ls)
  rising_rows a = subst IsRising (sym (same_row a)) (rising_row_of links a turned)

  pub built-gathered : (m : Rows) → AreGathered m hs ls → IsBuilt m (map.entries links)
  built-gathered m g = record {
    graph = record {
      unique = g.unique;
      alike = λ a b. says b a ∙ relation_mutual (unmarked links) a b ∙ ap (option_map converse) (sym (says a b));
      apart = λ a. says a a ∙ relation_self (unmarked links) a;
    };
    links = map.same_map pairs_total exact_pair (links_of m) (map.from_entries (map.entries links)) (λ q.
        get-links_of m g.unique q ∙ elim (cases_Bool (nat_lt q.0 q.1)) [
          | inl up ↦ ap (λ t. cond t (rel_of m q.0 q.1) None) up ∙ says q.0 q.1
              ∙ ap (λ t. cond t (map.get links (q.0, q.1)) (cond (nat_lt q.1 q.0) (option_map converse (map.get links (q.1, q.0))) None)) up
              ∙ map.get-entries links q ∙ sym (map.get-from_entries pairs_total (map.entries links) q)
          | inr down ↦ ap (λ t. cond t (rel_of m q.0 q.1) None) down ∙ sym (find_low (map.entries links) q.0 q.1 turned (ltb-false q.0 q.1 down)) ∙ sym (map.get-from_entries pairs_total (map.entries links) q)
        ]);
    unmarked = g.unmarked;
    needed = g.needed;
  }
    where
      says : (a b : ℕ) → rel_of m a b ≡ between links a b
      says a b = ap (λ ns. rel_in ns b) (g.neighbours a ∙ same_row a) ∙ rel_in-row_of links a b turned

  pub as_count-many : (ks : List ℕ) → HasManyAses hs ls ks → 150000 < as_count (unmarked links)
  as_count-many ks h = omega (
    arith,
    h.many,
    length-le-as_count (unmarked links) ks h.apart (λ a in_ks.
        let some : 0 < length (row_of (map.entries links) a) = subst (λ (ns : List Neighbour). 0 < length ns) (same_row a) (h.each a in_ks) in
        occurs-append a _ (ends_of (map.entries links)) ∙ or_right _ _ (elim (cases_lt 0 (length (ends_at a (higher_ends (map.entries links))))) [
          | inl at ↦ at_higher (map.entries links) a at
          | inr none ↦ at_lower (map.entries links) a (omega (arith, some, none, length-append (ends_at a (higher_ends (map.entries links))) (ends_at a (lower_ends (map.entries links)))))
        ])),
  )
