-- What a write of one row changes of the rows.
use Rattle.std.proofs.Common.{◌≡◌, ◌≢◌, inl, inr, ℕ, Bool, true, false, cond, nat_eq, Option, Some, None, is_some, [], length, nat_le, ◌+◌, refl, sym, ◌∙◌, ap, subst}
use Rattle.std.proofs.lemmas.Bool.{cases_eq, eq-eqb, ne_eqb}
use Rattle.std.specs.Map.{lookup}
use Rattle.std.specs.Option.{option_map_or}
use Rattle.smallvec.specs.SmallVec.{SmallVec}
use Rattle.indexmap.specs.IndexMap.{get, IsUnique, index_map_len}
use Rattle.net_names.specs.declared.routes.Rel.{Rel}
use Rattle.as_graph.specs.declared.neighbour.Neighbour.{Neighbour}
use Rattle.as_graph.specs.declared.row.Row.{Row}
use Rattle.as_graph.specs.Rows.{rel_in, SetsRel}
use Rattle.as_graph.specs.Graphs.{Rows, neighbours_of, is_marked}
use Rattle.as_graph.specs.Writes.{has_room, has_room_at, KeepsRows, SetsEnd, SetsMark}
use Rattle.as_graph.proofs.RowLinks.{items_at}
use Rattle.as_graph.proofs.RowAses.{mark_at}

pub none_from : {A : Type 0} (o : Option A) → false ≡ is_some o → o ≡ None
none_from None e = refl
none_from (Some x) e = cc

abbrev pub room_of : Option Row → Bool
room_of o = option_map_or has_room o false

-- the same entries are the same rows
pub same_rows : (m n : Rows) → n.entries ≡ m.entries → IsUnique nat_eq n → KeepsRows m n
same_rows m n same unique =
    let at : (j : ℕ) → get nat_eq n j ≡ get nat_eq m j = λ j. ap (λ es. lookup (nat_eq j) es) same in
    record {
      unique = unique;
      neighbours = λ j. ap items_at (at j);
      marks = λ j. ap mark_at (at j);
      rooms = λ j h. ap room_of (at j) ∙ h;
    }

-- two steps that keep the rows
pub kept_twice : (l m n : Rows) → KeepsRows l m → KeepsRows m n → KeepsRows l n
kept_twice l m n one two = record {
  unique = two.unique;
  neighbours = λ j. two.neighbours j ∙ one.neighbours j;
  marks = λ j. two.marks j ∙ one.marks j;
  rooms = λ j h. two.rooms j (one.rooms j h);
}

-- a row without neighbours and mark, where there was none
pub row_made : (m n : Rows) (a : ℕ) (r : Row) → get nat_eq m a ≡ None → ((q : ℕ) → get nat_eq n q ≡ cond (nat_eq a q) (Some r) (get nat_eq m q)) → IsUnique nat_eq n → r.neighbours.items ≡ [] → r.marked ≡ false → KeepsRows m n
row_made m n a r none gets unique empty unmarked =
    let here : get nat_eq n a ≡ Some r = gets a ∙ ap (λ t. cond t (Some r) (get nat_eq m a)) (eq-eqb a a refl) in
    let other : (j : ℕ) → j ≢ a → get nat_eq n j ≡ get nat_eq m j = λ j o. gets j ∙ ap (λ t. cond t (Some r) (get nat_eq m j)) (ne_eqb a j (λ e. o (sym e))) in
    record {
      unique = unique;
      neighbours = λ j. elim (cases_eq j a) [
        | inl e ↦ subst (λ k. neighbours_of n k ≡ neighbours_of m k) (sym e) (ap items_at here ∙ empty ∙ sym (ap items_at none))
        | inr o ↦ ap items_at (other j o)
      ];
      marks = λ j. elim (cases_eq j a) [
        | inl e ↦ subst (λ k. is_marked n k ≡ is_marked m k) (sym e) (ap mark_at here ∙ unmarked ∙ sym (ap mark_at none))
        | inr o ↦ ap mark_at (other j o)
      ];
      rooms = λ j h. elim (cases_eq j a) [
        | inl e ↦ let no : false ≡ true = sym (ap room_of none) ∙ ap (has_room_at m) (sym e) ∙ h in cc
        | inr o ↦ ap room_of (other j o) ∙ h
      ];
    }

-- a row is written in its place
module _ (m n : Rows) (a : ℕ) (r s : Row) (was : Some r ≡ get nat_eq m a) (gets : (q : ℕ) → get nat_eq n q ≡ cond (nat_eq a q) (Some s) (get nat_eq m q)) (unique : IsUnique nat_eq n) where
  pub written : get nat_eq n a ≡ Some s
  written = gets a ∙ ap (λ t. cond t (Some s) (get nat_eq m a)) (eq-eqb a a refl)

  other : (j : ℕ) → j ≢ a → get nat_eq n j ≡ get nat_eq m j
  other j o = gets j ∙ ap (λ t. cond t (Some s) (get nat_eq m j)) (ne_eqb a j (λ e. o (sym e)))

  pub row_keeps : s.neighbours.items ≡ r.neighbours.items → s.marked ≡ r.marked → (has_room r ≡ true → has_room s ≡ true) → KeepsRows m n
  row_keeps items marked room = record {
    unique = unique;
    neighbours = λ j. elim (cases_eq j a) [
      | inl e ↦ subst (λ k. neighbours_of n k ≡ neighbours_of m k) (sym e) (ap items_at written ∙ items ∙ ap items_at was)
      | inr o ↦ ap items_at (other j o)
    ];
    marks = λ j. elim (cases_eq j a) [
      | inl e ↦ subst (λ k. is_marked n k ≡ is_marked m k) (sym e) (ap mark_at written ∙ marked ∙ ap mark_at was)
      | inr o ↦ ap mark_at (other j o)
    ];
    rooms = λ j h. elim (cases_eq j a) [
      | inl e ↦ subst (λ k. has_room_at n k ≡ true) (sym e) (ap room_of written ∙ room (ap room_of was ∙ ap (has_room_at m) (sym e) ∙ h))
      | inr o ↦ ap room_of (other j o) ∙ h
    ];
  }

  pub row_sets_mark : (mark : Bool) → index_map_len n ≡ index_map_len m → s.marked ≡ mark → s.neighbours ≡ r.neighbours → SetsMark m n a mark
  row_sets_mark mark count marked same = record {
    unique = unique;
    count = count;
    this = ap mark_at written ∙ marked;
    others = λ j o. ap mark_at (other j o);
    neighbours = λ j. elim (cases_eq j a) [
      | inl e ↦ subst (λ k. neighbours_of n k ≡ neighbours_of m k) (sym e) (ap items_at written ∙ ap (λ (v : SmallVec Neighbour). v.items) same ∙ ap items_at was)
      | inr o ↦ ap items_at (other j o)
    ];
    rooms = λ j. elim (cases_eq j a) [
      | inl e ↦ subst (λ k. has_room_at n k ≡ has_room_at m k) (sym e) (ap room_of written ∙ ap (λ (v : SmallVec Neighbour). nat_le (length v.items + 1) v.capacity) same ∙ ap room_of was)
      | inr o ↦ ap room_of (other j o)
    ];
  }

  pub row_sets_end : (b : ℕ) (rel : Option Rel) → index_map_len n ≡ index_map_len m → SetsRel r.neighbours.items s.neighbours.items b rel → s.marked ≡ r.marked → SetsEnd m n a b rel
  row_sets_end b rel count sets marked =
      let new : neighbours_of n a ≡ s.neighbours.items = ap items_at written in
      let old : r.neighbours.items ≡ neighbours_of m a = ap items_at was in
      record {
        unique = unique;
        count = count;
        this = ap (λ l. rel_in l b) new ∙ sets.this;
        others = λ k o. ap (λ l. rel_in l k) new ∙ sets.others k o ∙ ap (λ l. rel_in l k) old;
        mark = ap mark_at written ∙ marked ∙ ap mark_at was;
        rows = other;
      }
