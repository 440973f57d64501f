-- The graph after an edit: what contracts see of it, and what is kept.
use Rattle.std.proofs.Common.{◌≡◌, ◌≢◌, inl, inr, ℕ, ◌+◌, ◌-◌, ◌<◌, ◌≤◌, Bool, true, false, ◌||◌, ◌&&◌, ◌==◌, cond, nat_lt, nat_eq, Option, Some, None, Result, Ok, Err, OnErr, is_some, option_map, List, [], ◌∷◌, length, refl, sym, ◌∙◌, ap, subst, arith}
use Rattle.std.proofs.lemmas.Bool.{cases_eq, eq-eqb, ne_eqb, eqb-true, lt-ltb, or_cases, true≢false}
use Rattle.std.specs.Cmp.{nat_eq_equiv}
use Rattle.std.specs.List.Sorted.{IsStrictlyIncreasing}
use Rattle.std.specs.Option.{option_map_or}
use Rattle.std.specs.FinMap as map
use Rattle.indexmap.specs.IndexMap.{get, index_map_len}
use Rattle.net_names.specs.declared.routes.Rel.{Rel}
use Rattle.net_names.specs.Links.{pair_cmp, between, converse}
use Rattle.net_names.specs.Numbers.{occurs}
use Rattle.as_graph.specs.declared.neighbour.Neighbour.{Neighbour}
use Rattle.as_graph.specs.declared.row.Row.{Row}
use Rattle.as_graph.specs.Topology.{Topology, as_count, with_mark}
use Rattle.as_graph.specs.Room.{is_room_for, is_room_with, with_room, only_room_for, only_room_with}
use Rattle.as_graph.specs.Edits.{with_link, without_link, without_mark}
use Rattle.as_graph.specs.Rows.{rel_in}
use Rattle.as_graph.specs.Graphs.{Rows, neighbours_of, rel_of, is_marked, is_needed, is_there, links_of, topology_of, graph_of, IsGraph, IsKept}
use Rattle.as_graph.specs.Writes.{HasRoomFor, IsRoomy, KeepsRows, SetsLink, SetsMark}
use Rattle.as_graph.proofs.Links.{linked_end, relation_mutual}
use Rattle.as_graph.proofs.RowLinks.{relation-topology_of}
use Rattle.as_graph.proofs.RowAses.{mark_at, contains-marked, has-topology_of, as_count-listed, rising_distinct}
use Rattle.as_graph.proofs.TakenLinks.{mark_absent}
use Rattle.as_graph.proofs.Marking.{there_is, kept_row, topology_of-kept, kept-kept, roomy-kept, there_others, there_new, kept-marked}
use Rattle.as_graph.proofs.LinkTopology.{topology_of-linked, len-linked, len-unlinked, there-linked, there-off, both_false, some_from, row_of_room, place_left}

-- what holds anyway holds after a refusal
pub on_err : {T E : Type 0} (r : Result T E) (P : Type 0) → P → OnErr r P
on_err (Ok x) P p = tt
on_err (Err e) P p = p

-- ---- the rows of the order

-- rows are made, and the order stays
module _ (l m : Rows) (order now : List ℕ) (count : ℕ) (kept : IsKept l order count) (keeps : KeepsRows l m) (same : now ≡ order) where
  pub rows_listed : (x : ℕ) → occurs x now ≡ true → is_some (get nat_eq m x) ≡ true
  rows_listed x h = kept_row l m x keeps (sym (kept.listed x) ∙ ap (occurs x) (sym same) ∙ h)

  pub kept_made : IsKept m now count
  kept_made = subst (λ (o : List ℕ). IsKept m o count) (sym same) (kept-kept l m keeps order count kept)

  pub invariant_made : (places : ℕ) (room : Option (ℕ × ℕ)) (old : ℕ) → IsRoomy l old room → index_map_len m ≤ places → IsKept m now count × IsRoomy m places room
  invariant_made places room old roomy ordered = (kept_made, roomy-kept l m keeps places room old roomy ordered)

  -- a new AS has a place in the order
  pub place_made : (a : ℕ) → is_some (get nat_eq m a) ≡ true → occurs a now ≡ false → length now + 1 ≤ index_map_len m
  place_made a row new = (let all = kept_made in place_left m now a keeps.unique all.rising rows_listed row new)

pub rows_more : (m : Rows) (order now : List ℕ) (a : ℕ) → ((j : ℕ) → occurs j now ≡ (a == j || occurs j order)) → ((x : ℕ) → occurs x order ≡ true → is_some (get nat_eq m x) ≡ true) → is_some (get nat_eq m a) ≡ true → (x : ℕ) → occurs x now ≡ true →
    is_some (get nat_eq m x) ≡ true
rows_more m order now a listed rows row x h = elim (or_cases (a == x) (occurs x order) (sym (listed x) ∙ h)) [ inl e ↦ ap (λ k. is_some (get nat_eq m k)) (sym (eqb-true a x e)) ∙ row | inr e ↦ rows x e ]

-- ---- what contracts see

module _ (l n : Rows) (room now : Option (ℕ × ℕ)) (g : Topology) (seen : graph_of l room ≡ g) where
  pub seen_same : topology_of n ≡ topology_of l → graph_of n room ≡ g
  seen_same t = (λ i. record { links = (t i).links; marked = (t i).marked; room = room }) ∙ seen

  pub seen_room : (a b : ℕ) → topology_of n ≡ topology_of l → graph_of n (Some (a, b)) ≡ with_room g a b
  seen_room a b t = (λ i. record { links = (t i).links; marked = (t i).marked; room = Some (a, b) }) ∙ ap (λ h. with_room h a b) seen

  pub seen_linked : (a b : ℕ) (r : Rel) → topology_of n ≡ with_link (topology_of l) a b r → now ≡ cond (is_room_for room a b) room None → graph_of n now ≡ only_room_for (with_link g a b r) a b
  seen_linked a b r t e = (λ i. record { links = (t i).links; marked = (t i).marked; room = e i }) ∙ ap (λ h. only_room_for (with_link h a b r) a b) seen

  pub seen_unlinked : (a b : ℕ) → topology_of n ≡ without_link (topology_of l) a b → graph_of n room ≡ without_link g a b
  seen_unlinked a b t = (λ i. record { links = (t i).links; marked = (t i).marked; room = room }) ∙ ap (λ h. without_link h a b) seen

  pub seen_marked : (a : ℕ) → topology_of n ≡ with_mark (topology_of l) a → now ≡ cond (is_room_with room a) room None → graph_of n now ≡ only_room_with (with_mark g a) a
  seen_marked a t e = (λ i. record { links = (t i).links; marked = (t i).marked; room = e i }) ∙ ap (λ h. only_room_with (with_mark h a) a) seen

  pub seen_unmarked : (a : ℕ) → topology_of n ≡ without_mark (topology_of l) a → graph_of n room ≡ without_mark g a
  seen_unmarked a t = (λ i. record { links = (t i).links; marked = (t i).marked; room = room }) ∙ ap (λ h. without_mark h a) seen

-- where rows are made, a refusal leaves the graph as it was
pub refused_made : (l m : Rows) (order : List ℕ) (count : ℕ) → IsKept l order count → KeepsRows l m → {T E : Type 0} (r : Result T E) (room : Option (ℕ × ℕ)) (g : Topology) → graph_of l room ≡ g → OnErr r (graph_of m room ≡ g)
refused_made l m order count kept keeps r room g seen = on_err r _ (seen_same l m room room g seen (topology_of-kept l m keeps kept.graph))

-- an AS without a row has no mark to take away
pub seen_unmarked_none : (l : Rows) (room : Option (ℕ × ℕ)) (g : Topology) (a : ℕ) → IsGraph l → graph_of l room ≡ g → get nat_eq l a ≡ None → g ≡ without_mark g a
seen_unmarked_none l room g a graph seen none =
    subst (λ h. h ≡ without_mark h a) seen (sym (mark_absent (graph_of l room) a (contains-marked l graph.unique a ∙ ap mark_at none)))

-- ---- links

-- both ends of a link are there
pub end_there : (l : Rows) (a b : ℕ) → IsGraph l → rel_of l a b ≢ None → is_there l a ≡ true
end_there l a b graph some = let (r, is) = some_from (rel_of l a b) some in
    sym (has-topology_of l graph a) ∙ linked_end (topology_of l) b a (converse r) (relation_mutual (topology_of l) a b ∙ ap (option_map converse) (relation-topology_of l graph a b ∙ is))

pub some_back : (l : Rows) (a b : ℕ) → IsGraph l → rel_of l a b ≢ None → rel_of l b a ≢ None
some_back l a b graph some none = some (graph.alike b a ∙ ap (option_map converse) none)

eqb_turned : (a j : ℕ) → (a == j) ≡ (j == a)
eqb_turned a j = nat_eq_equiv.symm a j

or_swap : (a b c : Bool) → (b || (a || c)) ≡ (a || (b || c))
or_swap true true c = refl
or_swap true false c = refl
or_swap false b c = refl

-- a new link
module _ (l m n : Rows) (order now : List ℕ) (count a b : ℕ) (r : Rel) (kept : IsKept l order count) (keeps : KeepsRows l m) (ne : a ≢ b) (sets : SetsLink m n a b (Some r)) where
  middle : IsKept m order count
  middle = kept-kept l m keeps order count kept

  pub topology_of-added : topology_of n ≡ with_link (topology_of l) a b r
  topology_of-added = topology_of-linked m n a b (Some r) ne middle.graph sets r refl ∙ ap (λ t. with_link t a b r) (topology_of-kept l m keeps kept.graph)

  pub kept-added : ((j : ℕ) → occurs j now ≡ (b == j || (a == j || occurs j order))) → IsStrictlyIncreasing now → as_count (with_link (topology_of l) a b r) ≤ 150000 → rel_of l a b ≡ None → count < 1500000 → IsKept n now (count + 1)
  kept-added listed rising few none links = record {
    graph = sets.graph;
    listed = there;
    rising = rising;
    few_ases = (let all = as_count-listed (topology_of n) now (rising_distinct now rising) (λ j. there j ∙ sym (has-topology_of n sets.graph j)) in let same = ap as_count topology_of-added in omega (arith, all, same, few));
    counted = len-linked m n a b (Some r) ne middle.graph sets r refl
        ∙ ap (λ o. cond (is_some o) (map.len (links_of m)) (map.len (links_of m) + 1)) (ap (λ ns. rel_in ns b) (keeps.neighbours a) ∙ none) ∙ ap (λ t. t + 1) middle.counted;
    few_links = omega (arith, links);
  }
    where
      there : (j : ℕ) → occurs j now ≡ is_there n j
      there j = listed j ∙ or_swap (a == j) (b == j) (occurs j order) ∙ (λ i. eqb_turned a j i || (eqb_turned b j i || middle.listed j i)) ∙ sym (there-linked m n a b (Some r) ne middle.graph sets r refl j)

absorb : (x y t : Bool) → (x ≡ true → t ≡ true) → (y ≡ true → t ≡ true) → t ≡ (x || (y || t))
absorb true y t f g = f refl
absorb false true t f g = g refl
absorb false false t f g = refl

-- another link of a pair
module _ (l n : Rows) (order : List ℕ) (count a b : ℕ) (r : Rel) (kept : IsKept l order count) (some : rel_of l a b ≢ None) (ne : a ≢ b) (sets : SetsLink l n a b (Some r)) where
  same_there : (j : ℕ) → is_there l j ≡ is_there n j
  same_there j = absorb (j == a) (j == b) (is_there l j) (λ e. ap (is_there l) (is j a e) ∙ end_there l a b kept.graph some) (λ e. ap (is_there l) (is j b e) ∙ end_there l b a kept.graph (some_back l a b kept.graph some))
      ∙ sym (there-linked l n a b (Some r) ne kept.graph sets r refl j)
    where
      is : (x y : ℕ) → (x == y) ≡ true → x ≡ y
      is x y e = eqb-true x y e

  pub kept-replaced : IsKept n order count
  kept-replaced = record {
    graph = sets.graph;
    listed = λ j. kept.listed j ∙ same_there j;
    rising = kept.rising;
    few_ases = kept.few_ases;
    counted = len-linked l n a b (Some r) ne kept.graph sets r refl ∙ had (rel_of l a b) some ∙ kept.counted;
    few_links = kept.few_links;
  }
    where
      had : (o : Option Rel) → o ≢ None → cond (is_some o) (map.len (links_of l)) (map.len (links_of l) + 1) ≡ map.len (links_of l)
      had None h = absurd (h refl)
      had (Some s) h = refl

  pub few-replaced : as_count (with_link (topology_of l) a b r) ≤ 150000
  few-replaced =
      let all = as_count-listed (topology_of n) order (rising_distinct order kept.rising) (λ j. kept.listed j ∙ same_there j ∙ sym (has-topology_of n sets.graph j)) in
      let same = ap as_count (topology_of-linked l n a b (Some r) ne kept.graph sets r refl) in
      let few = kept.few_ases in
      omega (arith, all, same, few)

-- no link of a pair any more
module _ (l n : Rows) (order one two : List ℕ) (count a b : ℕ) (kept : IsKept l order count) (some : rel_of l a b ≢ None) (ne : a ≢ b) (sets : SetsLink l n a b None)
    (first : occurs a one ≡ (is_there n a && occurs a order)) (first_others : (j : ℕ) → j ≢ a → occurs j one ≡ occurs j order)
    (second : occurs b two ≡ (is_there n b && occurs b one)) (second_others : (j : ℕ) → j ≢ b → occurs j two ≡ occurs j one) where
  and_true : (x y : Bool) → y ≡ true → (x && y) ≡ x
  and_true true y e = e
  and_true false y e = refl

  at_first : occurs a one ≡ is_there n a
  at_first = first ∙ and_true (is_there n a) (occurs a order) (kept.listed a ∙ end_there l a b kept.graph some)

  at_second : occurs b two ≡ is_there n b
  at_second = second ∙ and_true (is_there n b) (occurs b one) (first_others b (λ e. ne (sym e)) ∙ kept.listed b ∙ end_there l b a kept.graph (some_back l a b kept.graph some))

  there : (j : ℕ) → occurs j two ≡ is_there n j
  there j = elim (cases_eq j b) [
    | inl e ↦ subst (λ k. occurs k two ≡ is_there n k) (sym e) at_second
    | inr nb ↦ second_others j nb ∙ elim (cases_eq j a) [
      | inl e ↦ subst (λ k. occurs k one ≡ is_there n k) (sym e) at_first
      | inr na ↦ first_others j na ∙ kept.listed j ∙ sym (there-off l n a b None ne kept.graph sets j na nb)
    ]
  ]

  pub kept-removed : IsStrictlyIncreasing two → length two ≤ length order → (less : ℕ) → less + 1 ≡ count → IsKept n two less
  kept-removed rising few less is = record {
    graph = sets.graph;
    listed = there;
    rising = rising;
    few_ases = (let f = kept.few_ases in omega (arith, f, few));
    counted = len-unlinked l n a b None ne kept.graph sets refl ∙ had (rel_of l a b) some ∙ (let c = kept.counted in omega (arith, c, is));
    few_links = (let f = kept.few_links in omega (arith, f, is));
  }
    where
      had : (o : Option Rel) → o ≢ None → cond (is_some o) (map.len (links_of l) - 1) (map.len (links_of l)) ≡ map.len (links_of l) - 1
      had None h = absurd (h refl)
      had (Some s) h = refl

none_between : (x y : Bool) (p q : Option Rel) → p ≡ None → q ≡ None → cond x p (cond y (option_map converse q) None) ≡ None
none_between true y p q e f = e
none_between false true p q e f = ap (option_map converse) f
none_between false false p q e f = refl

between_empty : (a b : ℕ) → between map.empty a b ≡ None
between_empty a b = none_between (nat_lt a b) (nat_lt b a) (map.get map.empty (a, b)) (map.get map.empty (b, a)) (map.get-empty pair_cmp (a, b)) (map.get-empty pair_cmp (b, a))

-- there is a link to take away
pub some_links : (l : Rows) (order : List ℕ) (count a b : ℕ) → IsKept l order count → rel_of l a b ≢ None → 1 ≤ count
some_links l order count a b kept some = elim (cases_eq count 0) [
  | inl e ↦ absurd (some (sym (relation-topology_of l kept.graph a b) ∙ ap (λ m. between m a b) (map.empty_of_len (links_of l) (kept.counted ∙ e)) ∙ between_empty a b))
  | inr ne ↦ omega (arith, ne)
]

-- ---- marks

-- an AS that is not there has no links
pub lone_rel : (l : Rows) (a x : ℕ) → is_there l a ≡ false → rel_of l a x ≡ None
lone_rel l a x h = by (get nat_eq l a) h
  where
    none : (ns : List Neighbour) → nat_lt 0 (length ns) ≡ false → rel_in ns x ≡ None
    none [] e = refl
    none (n ∷ ns) e = absurd (true≢false (sym (lt-ltb 0 (length (n ∷ ns)) (omega arith)) ∙ e))

    by : (o : Option Row) → option_map_or is_needed o false ≡ false → rel_in (option_map_or (λ (r : Row). r.neighbours.items) o []) x ≡ None
    by None e = refl
    by (Some r) e = none r.neighbours.items (both_false r.marked (nat_lt 0 (length r.neighbours.items)) e).1

-- where there is room with an AS that is not there, it has a row
pub row_there : (l : Rows) (room : Option (ℕ × ℕ)) (a : ℕ) → IsGraph l → ((x y : ℕ) → room ≡ Some (x, y) → HasRoomFor l x y) → is_there l a ≡ false → is_room_with room a ≡ true → is_some (get nat_eq l a) ≡ true
row_there l None a graph rooms lone h = cc
row_there l (Some (x, y)) a graph rooms lone h = elim (or_cases (x == a) (y == a) h) [
  | inl e ↦
      let same : x ≡ a = eqb-true x a e in
      ap (λ k. is_some (get nat_eq l k)) (sym same) ∙ row_of_room l x (rooms x y refl (ap (λ k. rel_of l k y) same ∙ lone_rel l a y lone)).0
  | inr e ↦
      let same : y ≡ a = eqb-true y a e in
      ap (λ k. is_some (get nat_eq l k)) (sym same) ∙ row_of_room l y (rooms x y refl (ap (λ k. rel_of l x k) same ∙ graph.alike a x ∙ ap (option_map converse) (lone_rel l a x lone))).1
]

-- an AS that is there gets a mark
pub kept-marked-there : (l m : Rows) (order : List ℕ) (count a : ℕ) → SetsMark l m a true → IsKept l order count → is_there l a ≡ true → IsKept m order count
kept-marked-there l m order count a marks kept there = kept-marked l m a true marks order order count kept (λ j. kept.listed j ∙ same j ∙ sym (there_new l m a marks j)) kept.rising kept.few_ases
  where
    same : (j : ℕ) → is_there l j ≡ (a == j || is_there l j)
    same j = elim (cases_eq a j) [
      | inl e ↦ sym (ap (is_there l) e) ∙ there ∙ sym (ap (λ t. t || is_there l j) (eq-eqb a j e))
      | inr o ↦ sym (ap (λ t. t || is_there l j) (ne_eqb a j o))
    ]

-- a new AS gets a mark
pub kept-marked-new : (l m n : Rows) (order now : List ℕ) (count a : ℕ) → KeepsRows l m → SetsMark m n a true → IsKept l order count → ((j : ℕ) → occurs j now ≡ (a == j || occurs j order)) → IsStrictlyIncreasing now → length now ≤ 150000 → IsKept n now count
kept-marked-new l m n order now count a keeps marks kept listed rising few =
    let middle : IsKept m order count = kept-kept l m keeps order count kept in
    kept-marked m n a true marks order now count middle (λ j. listed j ∙ ap (λ t. a == j || t) (middle.listed j) ∙ sym (there_new m n a marks j)) rising few

-- an AS loses its mark
pub kept-unmarked : (l m : Rows) (order now : List ℕ) (count a : ℕ) → SetsMark l m a false → IsKept l order count → occurs a now ≡ (is_there m a && occurs a order) → ((j : ℕ) → j ≢ a → occurs j now ≡ occurs j order) → IsStrictlyIncreasing now → length now ≤ length order → IsKept m now count
kept-unmarked l m order now count a marks kept this others rising few = kept-marked l m a false marks order now count kept there rising (let f = kept.few_ases in omega (arith, f, few))
  where
    still : (mark more : Bool) → (more && (mark || more)) ≡ more
    still mark false = refl
    still true true = refl
    still false true = refl

    at : occurs a now ≡ is_there m a
    at =
        let only : is_there m a ≡ nat_lt 0 (length (neighbours_of l a)) = there_is m a ∙ (λ i. marks.this i || nat_lt 0 (length (marks.neighbours a i))) in
        this ∙ (λ i. only i && (kept.listed a ∙ there_is l a) i) ∙ still (is_marked l a) (nat_lt 0 (length (neighbours_of l a))) ∙ sym only

    there : (j : ℕ) → occurs j now ≡ is_there m j
    there j = elim (cases_eq j a) [
      | inl e ↦ subst (λ k. occurs k now ≡ is_there m k) (sym e) at
      | inr o ↦ others j o ∙ kept.listed j ∙ sym (there_others l m a false marks j o)
    ]
