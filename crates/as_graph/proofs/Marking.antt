-- What a mark changes of the rows.
use Rattle.std.proofs.Common.{◌≡◌, ◌≢◌, inl, inr, ℕ, ◌≤◌, Bool, true, false, ◌||◌, ◌&&◌, not, ◌==◌, cond, nat_lt, nat_eq, Option, Some, None, is_some, option_map, List, length, refl, sym, ◌∙◌, ap, arith}
use Rattle.std.proofs.lemmas.Bool.{cases_eq, eq-eqb, ne_eqb}
use Rattle.std.proofs.lemmas.Bool.Decides.{nat_tests}
use Rattle.std.proofs.lemmas.Cmp.{nat_cmp_total}
use Rattle.std.specs.Cmp.{unsigned_tied}
use Rattle.std.specs.List.Sorted.{IsStrictlyIncreasing}
use Rattle.std.specs.Option.{option_map_or}
use Rattle.std.specs.FinMap as map
use Rattle.std.specs.FinSet as set
use Rattle.indexmap.specs.IndexMap.{get, IsUnique, index_map_len}
use Rattle.net_names.specs.Links.{converse}
use Rattle.net_names.specs.Numbers.{occurs}
use Rattle.as_graph.specs.declared.row.Row.{Row}
use Rattle.as_graph.specs.Topology.{with_mark}
use Rattle.as_graph.specs.Rows.{rel_in}
use Rattle.as_graph.specs.Graphs.{Rows, neighbours_of, rel_of, is_marked, is_needed, is_there, links_of, topology_of, IsGraph, IsKept}
use Rattle.as_graph.specs.Edits.{without_mark}
use Rattle.as_graph.specs.Writes.{IsRoomy, KeepsRows, SetsMark}
use Rattle.net_names.proofs.Pairs.{pairs_total, exact_pair}
use Rattle.as_graph.proofs.RowLinks.{items_at, get-links_of}
use Rattle.as_graph.proofs.RowAses.{mark_at, contains-marked, row_tested}

-- an AS has a row that is needed where it has a mark or a neighbour
pub there_is : (m : Rows) (a : ℕ) → is_there m a ≡ (is_marked m a || nat_lt 0 (length (neighbours_of m a)))
there_is m a = by (get nat_eq m a)
  where
    by : (o : Option Row) → option_map_or is_needed o false ≡ (mark_at o || nat_lt 0 (length (items_at o)))
    by None = refl
    by (Some r) = refl

-- rows with the same neighbours have the same links
module _ (l m : Rows) (unique : IsUnique nat_eq m) (same : (j : ℕ) → neighbours_of m j ≡ neighbours_of l j) where
  same_rel : (j k : ℕ) → rel_of m j k ≡ rel_of l j k
  same_rel j k = ap (λ ns. rel_in ns k) (same j)

  same_graph : IsGraph l → IsGraph m
  same_graph graph = record {
    unique = unique;
    alike = λ j k. same_rel k j ∙ graph.alike j k ∙ sym (ap (option_map converse) (same_rel j k));
    apart = λ j. same_rel j j ∙ graph.apart j;
  }

  same_links : IsGraph l → links_of m ≡ links_of l
  same_links graph = map.same_map pairs_total exact_pair _ _ (λ q. get-links_of m unique q ∙ ap (λ o. cond (nat_lt q.0 q.1) o None) (same_rel q.0 q.1) ∙ sym (get-links_of l graph.unique q))

-- rows that tell the same make the same graph
module _ (l m : Rows) (keeps : KeepsRows l m) where
  pub kept_graph : IsGraph l → IsGraph m
  kept_graph = same_graph l m keeps.unique keeps.neighbours

  kept_links : IsGraph l → links_of m ≡ links_of l
  kept_links = same_links l m keeps.unique keeps.neighbours

  pub topology_of-kept : IsGraph l → topology_of m ≡ topology_of l
  topology_of-kept graph =
      let marks : (topology_of m).marked ≡ (topology_of l).marked = set.same_set nat_cmp_total set.nat_cmp-IsAntisymmetric _ _ (λ q. contains-marked m keeps.unique q ∙ keeps.marks q ∙ sym (contains-marked l graph.unique q)) in
      λ i. record { links = kept_links graph i; marked = marks i; room = None }

  pub there_kept : (j : ℕ) → is_there m j ≡ is_there l j
  there_kept j = there_is m j ∙ (λ i. keeps.marks j i || nat_lt 0 (length (keeps.neighbours j i))) ∙ sym (there_is l j)

  pub kept-kept : (order : List ℕ) (count : ℕ) → IsKept l order count → IsKept m order count
  kept-kept order count kept = record {
    graph = kept_graph kept.graph;
    listed = λ j. kept.listed j ∙ sym (there_kept j);
    rising = kept.rising;
    few_ases = kept.few_ases;
    counted = ap map.len (kept_links kept.graph) ∙ kept.counted;
    few_links = kept.few_links;
  }

  -- and keep the room
  pub roomy-kept : (places : ℕ) (room : Option (ℕ × ℕ)) (old : ℕ) → IsRoomy l old room → index_map_len m ≤ places → IsRoomy m places room
  roomy-kept places room old roomy ordered = record {
    ordered = ordered;
    paired = λ a b is none. let was = roomy.paired a b is (sym (same_rel l m keeps.unique keeps.neighbours a b) ∙ none) in (keeps.rooms a was.0, keeps.rooms b was.1);
  }

-- a mark is set or taken away
module _ (l m : Rows) (a : ℕ) (mark : Bool) (marks : SetsMark l m a mark) where
  marked_links : IsGraph l → links_of m ≡ links_of l
  marked_links = same_links l m marks.unique marks.neighbours

  marked_is : (j : ℕ) → is_marked m j ≡ cond (nat_eq j a) mark (is_marked l j)
  marked_is j = elim (cases_eq j a) [
    | inl e ↦ ap (is_marked m) e ∙ marks.this ∙ sym (ap (λ t. cond t mark (is_marked l j)) (eq-eqb j a e))
    | inr o ↦ marks.others j o ∙ sym (ap (λ t. cond t mark (is_marked l j)) (ne_eqb j a o))
  ]

  there_marked : (j : ℕ) → is_there m j ≡ (cond (nat_eq j a) mark (is_marked l j) || nat_lt 0 (length (neighbours_of l j)))
  there_marked j = there_is m j ∙ (λ i. marked_is j i || nat_lt 0 (length (marks.neighbours j i)))

  pub there_others : (j : ℕ) → j ≢ a → is_there m j ≡ is_there l j
  there_others j o = there_marked j ∙ ap (λ t. cond t mark (is_marked l j) || nat_lt 0 (length (neighbours_of l j))) (ne_eqb j a o) ∙ sym (there_is l j)

  pub kept-marked : (old new : List ℕ) (count : ℕ) → IsKept l old count → ((j : ℕ) → occurs j new ≡ is_there m j) → IsStrictlyIncreasing new → length new ≤ 150000 → IsKept m new count
  kept-marked old new count kept listed rising few = record {
    graph = same_graph l m marks.unique marks.neighbours kept.graph;
    listed = listed;
    rising = rising;
    few_ases = few;
    counted = ap map.len (marked_links kept.graph) ∙ kept.counted;
    few_links = kept.few_links;
  }

  pub roomy-marked : (places old : ℕ) (was room : Option (ℕ × ℕ)) → IsRoomy l old was → index_map_len l ≤ places → ((a b : ℕ) → room ≡ Some (a, b) → was ≡ Some (a, b)) → IsRoomy m places room
  roomy-marked places old was room roomy ordered stays = record {
    ordered = (let c = marks.count in omega (arith, c, ordered));
    paired = λ x y is none. let had = roomy.paired x y (stays x y is) (sym (same_rel l m marks.unique marks.neighbours x y) ∙ none) in (marks.rooms x ∙ had.0, marks.rooms y ∙ had.1);
  }

-- the graph has one mark more
module _ (l m : Rows) (a : ℕ) (marks : SetsMark l m a true) where
  pub topology_of-marked : IsGraph l → topology_of m ≡ with_mark (topology_of l) a
  topology_of-marked graph =
      let more : (topology_of m).marked ≡ set.insert (topology_of l).marked a = set.same_set nat_cmp_total set.nat_cmp-IsAntisymmetric _ _ (λ q.
      contains-marked m marks.unique q ∙ marked_is l m a true marks q ∙ sym (set.contains-insert nat_cmp_total (topology_of l).marked a q ∙ (λ i. unsigned_tied q a i || contains-marked l graph.unique q i) ∙ by (nat_eq q a) (is_marked l q))) in
      λ i. record { links = marked_links l m a true marks graph i; marked = more i; room = None }
    where
      by : (x y : Bool) → (x || y) ≡ cond x true y
      by true y = refl
      by false y = refl

  pub there_new : (j : ℕ) → is_there m j ≡ (a == j || is_there l j)
  there_new j = there_marked l m a true marks j ∙ by (nat_eq j a) (is_marked l j) _ ∙ (λ i. turned i || sym (there_is l j) i)
    where
      turned : nat_eq j a ≡ (a == j)
      turned = grind (arith, nat_tests)

      by : (x y z : Bool) → (cond x true y || z) ≡ (x || (y || z))
      by true y z = refl
      by false y z = refl

-- or one mark less
pub topology_of-unmarked : (l m : Rows) (a : ℕ) → SetsMark l m a false → IsGraph l → topology_of m ≡ without_mark (topology_of l) a
topology_of-unmarked l m a marks graph =
    let less : (topology_of m).marked ≡ set.remove (topology_of l).marked a = set.same_set nat_cmp_total set.nat_cmp-IsAntisymmetric _ _ (λ q.
    contains-marked m marks.unique q ∙ marked_is l m a false marks q ∙ sym (set.contains-remove nat_cmp_total (topology_of l).marked a q ∙ (λ i. not (unsigned_tied q a i) && contains-marked l graph.unique q i) ∙ by (nat_eq q a) (is_marked l q))) in
    λ i. record { links = marked_links l m a false marks graph i; marked = less i; room = None }
  where
    by : (x y : Bool) → (not x && y) ≡ cond x false y
    by true y = refl
    by false y = refl

-- an AS that is there has a row
pub there_row : (m : Rows) (a : ℕ) → is_there m a ≡ true → is_some (get nat_eq m a) ≡ true
there_row m a h = row_tested is_needed m a h

-- and where rows are kept, it keeps one
pub kept_row : (l m : Rows) (a : ℕ) → KeepsRows l m → is_there l a ≡ true → is_some (get nat_eq m a) ≡ true
kept_row l m a keeps h = there_row m a (there_kept l m keeps a ∙ h)
