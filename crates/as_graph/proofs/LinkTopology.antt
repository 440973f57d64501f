-- The topology of rows in which a link is set or taken away.
use Rattle.std.proofs.Common.{◌≡◌, ◌≢◌, ◌⊎◌, inl, inr, ℕ, ◌+◌, ◌-◌, ◌<◌, ◌≤◌, Bool, true, false, ◌||◌, ◌&&◌, ◌==◌, cond, nat_lt, nat_eq, Option, Some, None, is_some, unwrap_or, option_map, List, [], ◌∷◌, length, refl, sym, ◌∙◌, ap, subst, arith}
use Rattle.std.proofs.lemmas.Bool.{cases_Bool, ltb-true, ltb-false, lt-ltb, eqb-true, eq-eqb, or_cases, true≢false}
use Rattle.std.proofs.lemmas.Cmp.{nat_cmp_total}
use Rattle.std.proofs.lemmas.List.{length-map}
use Rattle.std.specs.Ordering.{nat_cmp, eq_by_cmp}
use Rattle.std.specs.List.{IsDistinct, AllByRecursion}
use Rattle.std.specs.Cmp.{nat_eq_equiv}
use Rattle.std.proofs.lemmas.Map.Keys.{IsDistinct-cons}
use Rattle.std.specs.List.Sorted.{IsStrictlyIncreasing}
use Rattle.std.specs.Map.{keys_of}
use Rattle.std.specs.Option.{option_map_or}
use Rattle.std.specs.FinMap as map
use Rattle.std.specs.FinSet as set
use Rattle.indexmap.specs.IndexMap.{get, IsUnique, index_map_len}
use Rattle.net_names.specs.declared.routes.Rel.{Rel}
use Rattle.net_names.specs.Links.{pair_cmp, converse}
use Rattle.net_names.specs.Numbers.{occurs}
use Rattle.net_names.proofs.Pairs.{pairs_total, exact_pair}
use Rattle.as_graph.specs.Topology.{has}
use Rattle.as_graph.specs.Room.{is_room_for}
use Rattle.as_graph.specs.Edits.{with_link, without_link}
use Rattle.as_graph.specs.Graphs.{Rows, rel_of, is_there, is_needed, links_of, topology_of, IsGraph}
use Rattle.as_graph.specs.Writes.{has_room, has_room_at, HasRoomFor, IsRoomy, SetsLink}
use Rattle.as_graph.proofs.RowLinks.{pair_tied, get-links_of}
use Rattle.as_graph.proofs.RowAses.{row_tested, contains-marked, has-topology_of, rising_distinct, distinct_len, len-from_list, occurs-keys}
use Rattle.as_graph.proofs.TakenLinks.{same_pair}
use Rattle.as_graph.proofs.EditedAses.{has-with_link}
use Rattle.std.proofs.lemmas.Bool.{and_parts as both_true}
pub use Rattle.std.proofs.lemmas.Bool.{or_parts as both_false}

-- ---- the links

module _ (l n : Rows) (before : IsUnique nat_eq l) (after : IsUnique nat_eq n) (lo hi : ℕ) (less : lo < hi)
    (others : (j k : ℕ) → ((j ≡ lo) × (k ≡ hi) → ⊥) → ((j ≡ hi) × (k ≡ lo) → ⊥) → rel_of n j k ≡ rel_of l j k) where
  -- each pair but this one has what it had
  links_at : (q : ℕ × ℕ) → map.get (links_of n) q ≡ cond (eq_by_cmp pair_cmp q (lo, hi)) (rel_of n lo hi) (map.get (links_of l) q)
  links_at q = get-links_of n after q ∙ elim (cases_Bool (eq_by_cmp pair_cmp q (lo, hi))) [
    | inl e ↦
        let same : q ≡ (lo, hi) = same_pair q (lo, hi) e in
        ap (λ (p : ℕ × ℕ). cond (nat_lt p.0 p.1) (rel_of n p.0 p.1) None) same ∙ ap (λ t. cond t (rel_of n lo hi) None) (lt-ltb lo hi less)
        ∙ sym (ap (λ t. cond t (rel_of n lo hi) (map.get (links_of l) q)) e)
    | inr e ↦ elim (cases_Bool (nat_lt q.0 q.1)) [
      | inl up ↦
          let rises : q.0 < q.1 = ltb-true q.0 q.1 up in
          ap (λ o. cond (nat_lt q.0 q.1) o None) (others q.0 q.1 (λ p. true≢false (sym (here q p) ∙ e)) (λ p. (let x = p.0 in let y = p.1 in omega (arith, x, y, less, rises))))
          ∙ sym (get-links_of l before q) ∙ sym (ap (λ t. cond t (rel_of n lo hi) (map.get (links_of l) q)) e)
      | inr down ↦
          ap (λ t. cond t (rel_of n q.0 q.1) None) down ∙ sym (ap (λ t. cond t (rel_of l q.0 q.1) None) down)
          ∙ sym (get-links_of l before q) ∙ sym (ap (λ t. cond t (rel_of n lo hi) (map.get (links_of l) q)) e)
    ]
  ]
    where
      here : (q : ℕ × ℕ) → (q.0 ≡ lo) × (q.1 ≡ hi) → eq_by_cmp pair_cmp q (lo, hi) ≡ true
      here q p = pair_tied q (lo, hi) ∙ (λ i. eq-eqb q.0 lo p.0 i && eq-eqb q.1 hi p.1 i)

  pub links_put : (v : Rel) → rel_of n lo hi ≡ Some v → links_of n ≡ map.insert (links_of l) (lo, hi) v
  links_put v is = map.same_map pairs_total exact_pair _ _ (λ q. links_at q ∙ ap (λ o. cond (eq_by_cmp pair_cmp q (lo, hi)) o (map.get (links_of l) q)) is ∙ sym (map.get-insert pairs_total (links_of l) (lo, hi) v q))

  pub links_taken : rel_of n lo hi ≡ None → links_of n ≡ map.remove (links_of l) (lo, hi)
  links_taken is = map.same_map pairs_total exact_pair _ _ (λ q. links_at q ∙ ap (λ o. cond (eq_by_cmp pair_cmp q (lo, hi)) o (map.get (links_of l) q)) is ∙ sym (map.get-remove pairs_total (links_of l) (lo, hi) q))

  -- whether the pair had a link
  had : map.contains_key (links_of l) (lo, hi) ≡ is_some (rel_of l lo hi)
  had = ap is_some (get-links_of l before (lo, hi) ∙ ap (λ t. cond t (rel_of l lo hi) None) (lt-ltb lo hi less))

  pub len_put : (v : Rel) → rel_of n lo hi ≡ Some v → map.len (links_of n) ≡ cond (is_some (rel_of l lo hi)) (map.len (links_of l)) (map.len (links_of l) + 1)
  len_put v is = ap map.len (links_put v is) ∙ map.len-insert pairs_total (links_of l) (lo, hi) v ∙ ap (λ t. cond t (map.len (links_of l)) (map.len (links_of l) + 1)) had

  pub len_taken : rel_of n lo hi ≡ None → map.len (links_of n) ≡ cond (is_some (rel_of l lo hi)) (map.len (links_of l) - 1) (map.len (links_of l))
  len_taken is = ap map.len (links_taken is) ∙ map.len-remove pairs_total (links_of l) (lo, hi) ∙ ap (λ t. cond t (map.len (links_of l) - 1) (map.len (links_of l))) had

some_alike : (o : Option Rel) → is_some (option_map converse o) ≡ is_some o
some_alike None = refl
some_alike (Some r) = refl

module _ (l n : Rows) (a b : ℕ) (rel : Option Rel) (ne : a ≢ b) (graph : IsGraph l) (sets : SetsLink l n a b rel) where
  back : rel_of n b a ≡ option_map converse rel
  back = sets.graph.alike a b ∙ ap (option_map converse) sets.this

  turned : (j k : ℕ) → ((j ≡ b) × (k ≡ a) → ⊥) → ((j ≡ a) × (k ≡ b) → ⊥) → rel_of n j k ≡ rel_of l j k
  turned j k x y = sets.others j k y x

  below : nat_lt a b ≡ false → b < a
  below e = (let le : b ≤ a = ltb-false a b e in let ne' : a ≢ b = ne in omega arith)

  marks : (topology_of n).marked ≡ (topology_of l).marked
  marks = set.same_set nat_cmp_total set.nat_cmp-IsAntisymmetric _ _ (λ q. contains-marked n sets.graph.unique q ∙ sets.marks q ∙ sym (contains-marked l graph.unique q))

  pub topology_of-linked : (r : Rel) → rel ≡ Some r → topology_of n ≡ with_link (topology_of l) a b r
  topology_of-linked r is = λ i. record { links = all i; marked = marks i; room = None }
    where
      all : links_of n ≡ cond (nat_lt a b) (map.insert (links_of l) (a, b) r) (map.insert (links_of l) (b, a) (converse r))
      all = elim (cases_Bool (nat_lt a b)) [
        | inl e ↦ links_put l n graph.unique sets.graph.unique a b (ltb-true a b e) sets.others r (sets.this ∙ is) ∙ sym (ap (λ t. cond t (map.insert (links_of l) (a, b) r) (map.insert (links_of l) (b, a) (converse r))) e)
        | inr e ↦ links_put l n graph.unique sets.graph.unique b a (below e) turned (converse r) (back ∙ ap (option_map converse) is) ∙ sym (ap (λ t. cond t (map.insert (links_of l) (a, b) r) (map.insert (links_of l) (b, a) (converse r))) e)
      ]

  pub topology_of-unlinked : rel ≡ None → topology_of n ≡ without_link (topology_of l) a b
  topology_of-unlinked is = λ i. record { links = all i; marked = marks i; room = None }
    where
      all : links_of n ≡ cond (nat_lt a b) (map.remove (links_of l) (a, b)) (map.remove (links_of l) (b, a))
      all = elim (cases_Bool (nat_lt a b)) [
        | inl e ↦ links_taken l n graph.unique sets.graph.unique a b (ltb-true a b e) sets.others (sets.this ∙ is) ∙ sym (ap (λ t. cond t (map.remove (links_of l) (a, b)) (map.remove (links_of l) (b, a))) e)
        | inr e ↦ links_taken l n graph.unique sets.graph.unique b a (below e) turned (back ∙ ap (option_map converse) is) ∙ sym (ap (λ t. cond t (map.remove (links_of l) (a, b)) (map.remove (links_of l) (b, a))) e)
      ]

  had_back : is_some (rel_of l b a) ≡ is_some (rel_of l a b)
  had_back = ap is_some (graph.alike a b) ∙ some_alike (rel_of l a b)

  pub len-linked : (r : Rel) → rel ≡ Some r → map.len (links_of n) ≡ cond (is_some (rel_of l a b)) (map.len (links_of l)) (map.len (links_of l) + 1)
  len-linked r is = elim (cases_Bool (nat_lt a b)) [
    | inl e ↦ len_put l n graph.unique sets.graph.unique a b (ltb-true a b e) sets.others r (sets.this ∙ is)
    | inr e ↦ len_put l n graph.unique sets.graph.unique b a (below e) turned (converse r) (back ∙ ap (option_map converse) is) ∙ ap (λ t. cond t (map.len (links_of l)) (map.len (links_of l) + 1)) had_back
  ]

  pub len-unlinked : rel ≡ None → map.len (links_of n) ≡ cond (is_some (rel_of l a b)) (map.len (links_of l) - 1) (map.len (links_of l))
  len-unlinked is = elim (cases_Bool (nat_lt a b)) [
    | inl e ↦ len_taken l n graph.unique sets.graph.unique a b (ltb-true a b e) sets.others (sets.this ∙ is)
    | inr e ↦ len_taken l n graph.unique sets.graph.unique b a (below e) turned (back ∙ ap (option_map converse) is) ∙ ap (λ t. cond t (map.len (links_of l) - 1) (map.len (links_of l))) had_back
  ]

  -- which rows there are
  pub there-linked : (r : Rel) → rel ≡ Some r → (j : ℕ) → is_there n j ≡ (j == a || (j == b || is_there l j))
  there-linked r is j = sym (has-topology_of n sets.graph j) ∙ ap (λ g. has g j) (topology_of-linked r is) ∙ has-with_link (topology_of l) a b r j ∙ ap (λ t. j == a || (j == b || t)) (has-topology_of l graph j)

  pub there-off : (j : ℕ) → j ≢ a → j ≢ b → is_there n j ≡ is_there l j
  there-off j na nb = ap (λ o. option_map_or is_needed o false) (sets.rows j na nb)

-- ---- the room

pub some_from : (o : Option Rel) → o ≢ None → (r : Rel) × (o ≡ Some r)
some_from None h = absurd (h refl)
some_from (Some r) h = (r, refl)

-- room that stays is the room that there was, and is for this
pub room_stays : (test : Option (ℕ × ℕ) → Bool) (room : Option (ℕ × ℕ)) (p : ℕ × ℕ) → cond (test room) room None ≡ Some p → (room ≡ Some p) × (test (Some p) ≡ true)
room_stays test room p is = elim (cases_Bool (test room)) [
  | inl e ↦ let same : room ≡ Some p = sym (ap (λ t. cond t room None) e) ∙ is in (same, ap test (sym same) ∙ e)
  | inr e ↦ let no : None ≡ Some p = sym (ap (λ t. cond t room None) e) ∙ is in cc
]

-- room for a pair is for these two ASes
pub pair_of_room : (x y a b : ℕ) → is_room_for (Some (x, y)) a b ≡ true → ((x ≡ a) × (y ≡ b)) ⊎ ((x ≡ b) × (y ≡ a))
pair_of_room x y a b h = elim (or_cases (x == a && y == b) _ h) [
  | inl e ↦ let p = both_true (x == a) (y == b) e in inl (eqb-true x a p.0, eqb-true y b p.1)
  | inr e ↦ let p = both_true (x == b) (y == a) e in inr (eqb-true x b p.0, eqb-true y a p.1)
]

-- with its link, a pair needs no more room
pub roomy-linked : (l n : Rows) (a b : ℕ) (r : Rel) (places old : ℕ) (was room : Option (ℕ × ℕ)) → SetsLink l n a b (Some r) → index_map_len l ≤ places → room ≡ cond (is_room_for was a b) was None → IsRoomy n places room
roomy-linked l n a b r places old was room sets ordered is = record {
  ordered = (let c = sets.count in omega (arith, c, ordered));
  paired = λ x y some none. absurd (linked x y (pair_of_room x y a b (room_stays (λ o. is_room_for o a b) was (x, y) (sym is ∙ some)).1) none);
}
  where
    linked : (x y : ℕ) → ((x ≡ a) × (y ≡ b)) ⊎ ((x ≡ b) × (y ≡ a)) → rel_of n x y ≡ None → ⊥
    linked x y (inl e) none = (let no : Some r ≡ None = sym sets.this ∙ (λ i. rel_of n (sym e.0 i) (sym e.1 i)) ∙ none in cc)
    linked x y (inr e) none = (let no : Some (converse r) ≡ None = sym (sets.graph.alike a b ∙ ap (option_map converse) sets.this) ∙ (λ i. rel_of n (sym e.0 i) (sym e.1 i)) ∙ none in cc)

none_alike : (o : Option Rel) → o ≡ None → option_map converse o ≡ None
none_alike o e = ap (option_map converse) e

-- where there is room for a pair without a link, both its rows have room
pub room_there : (l : Rows) (room : Option (ℕ × ℕ)) (a b : ℕ) → IsGraph l → ((x y : ℕ) → room ≡ Some (x, y) → HasRoomFor l x y) → rel_of l a b ≡ None → is_room_for room a b ≡ true → (has_room_at l a ≡ true) × (has_room_at l b ≡ true)
room_there l None a b graph rooms none h = cc
room_there l (Some (x, y)) a b graph rooms none h = elim (pair_of_room x y a b h) [
  | inl e ↦
      let all = rooms x y refl ((λ i. rel_of l (e.0 i) (e.1 i)) ∙ none) in
      (ap (has_room_at l) (sym e.0) ∙ all.0, ap (has_room_at l) (sym e.1) ∙ all.1)
  | inr e ↦
      let all = rooms x y refl ((λ i. rel_of l (e.0 i) (e.1 i)) ∙ graph.alike a b ∙ none_alike (rel_of l a b) none) in
      (ap (has_room_at l) (sym e.1) ∙ all.1, ap (has_room_at l) (sym e.0) ∙ all.0)
]

pub row_of_room : (l : Rows) (a : ℕ) → has_room_at l a ≡ true → is_some (get nat_eq l a) ≡ true
row_of_room l a h = row_tested has_room l a h

-- new room
pub roomy-new : (m : Rows) (places a b : ℕ) → index_map_len m ≤ places → (has_room_at m a ≡ true) × (has_room_at m b ≡ true) → IsRoomy m places (Some (a, b))
roomy-new m places a b ordered both = record {
  ordered = ordered;
  paired = λ x y is none. (
    ap (has_room_at m) (sym (ap (λ (o : Option (ℕ × ℕ)). (unwrap_or o (0, 0)).0) is)) ∙ both.0,
    ap (has_room_at m) (sym (ap (λ (o : Option (ℕ × ℕ)). (unwrap_or o (0, 0)).1) is)) ∙ both.1,
  );
}

-- ---- the order

distinct_more : (a : ℕ) (ks : List ℕ) → IsDistinct nat_eq ks → occurs a ks ≡ false → IsDistinct nat_eq (a ∷ ks)
distinct_more a ks d n = IsDistinct-cons nat_eq a ks (none_equal ks n) d
  where
    none_equal : (ks : List ℕ) → occurs a ks ≡ false → AllByRecursion (λ y. nat_eq a y ≡ false) ks
    none_equal [] n = tt
    none_equal (k ∷ ks) n = let p = both_false (k == a) (occurs a ks) n in (nat_eq_equiv.symm a k ∙ p.0, none_equal ks p.1)

-- an AS with a row has a place beside others with rows
pub place_left : (m : Rows) (ks : List ℕ) (a : ℕ) → IsUnique nat_eq m → IsStrictlyIncreasing ks → ((x : ℕ) → occurs x ks ≡ true → is_some (get nat_eq m x) ≡ true) → is_some (get nat_eq m a) ≡ true → occurs a ks ≡ false → length ks + 1 ≤ index_map_len m
place_left m ks a unique rising rows row new =
    let apart : IsDistinct nat_eq (a ∷ ks) = distinct_more a ks (rising_distinct ks rising) new in
    let all : length (a ∷ ks) ≤ set.len (set.from_list {R = nat_cmp} (keys_of m.entries)) = distinct_len (a ∷ ks) apart (set.from_list (keys_of m.entries)) (λ x in_ks. set.contains-from_list_nat (keys_of m.entries) x ∙ occurs-keys m.entries x ∙ has_row x in_ks) in
    let count : set.len (set.from_list {R = nat_cmp} (keys_of m.entries)) ≡ length (keys_of m.entries) = len-from_list (keys_of m.entries) unique in
    let keys : length (keys_of m.entries) ≡ index_map_len m = length-map m.entries (λ e. e.0) in
    omega (arith, all, count, keys)
  where
    has_row : (x : ℕ) → occurs x (a ∷ ks) ≡ true → is_some (get nat_eq m x) ≡ true
    has_row x h = elim (or_cases (a == x) (occurs x ks) h) [ inl e ↦ subst (λ k. is_some (get nat_eq m k) ≡ true) (eqb-true a x e) row | inr e ↦ rows x e ]
