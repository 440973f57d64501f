-- Marks that are put and taken at a place.
use Rattle.std.proofs.Common.{◌≡◌, ◌≢◌, inl, inr, ℕ, ◌+◌, ◌<◌, Bool, true, false, true≢false, Option, Some, None, List, [], length, get_or, nat_eq, set, take, refl, sym, ◌∙◌, ap}
use Rattle.std.specs.Prelude.{IsSome, is_some}
use Rattle.std.specs.List.{IsDistinct}
use Rattle.std.proofs.lemmas.Bool.{cases_eq, cases_order, eq-eqb}
use Rattle.std.proofs.lemmas.List.{get_or-set_same, get_or-set_other}
use Rattle.std.proofs.lemmas.Map.Keys.{apart_from_distinct}
use Rattle.net_names.specs.Numbers.{occurs}
use Rattle.net_names.specs.declared.routes.Rel.{Rel}
use Rattle.as_graph.specs.declared.neighbour.Neighbour.{Neighbour}
use Rattle.as_graph.specs.Neighbours.{AreNeighbours, asns}
use Rattle.stability_laws.proofs.BestViews.{among_more}
use Rattle.activations.specs.Settling.{IsMarked, IsRenewed, KeepsOthers, KeepsStrangers, StandsAt}

module _ (rows : List ℕ) (marks : List Bool) (place a : ℕ) (at : StandsAt rows marks place a) where
  -- a mark elsewhere stood before
  elsewhere : (value : Bool) (k b : ℕ) → k ≢ place → IsMarked rows (set marks place value) k b → IsMarked rows marks k b
  elsewhere value k b ne m = record { inside = m.inside; here = m.here; marked = sym (get_or-set_other marks place k value false ne) ∙ m.marked }

  pub put_there : KeepsOthers rows a marks (set marks place true)
  put_there k b m = elim (cases_eq k place) [
    | inl e ↦ inr (sym m.here ∙ ap (λ i. get_or rows i 0) e ∙ at.here)
    | inr ne ↦ inl (elsewhere true k b ne m)
  ]

  module _ (apart : IsDistinct nat_eq rows) where
    not_twice : (k : ℕ) → k ≢ place → k < length rows → get_or rows k 0 ≡ a → ⊥
    not_twice k ne less e = elim (cases_order k place) [
      | inl same ↦ ne same
      | inr (inl below) ↦ true≢false (sym (eq-eqb (get_or rows k 0) (get_or rows place 0) (e ∙ sym at.here)) ∙ apart_from_distinct nat_eq rows k place 0 apart below at.inside)
      | inr (inr above) ↦ true≢false (sym (eq-eqb (get_or rows place 0) (get_or rows k 0) (at.here ∙ sym e)) ∙ apart_from_distinct nat_eq rows place k 0 apart above less)
    ]

    pub take_there : KeepsStrangers (λ b. b ≡ a) rows marks (set marks place false)
    take_there k b m = elim (cases_eq k place) [
      | inl e ↦ absurd (true≢false (sym (sym (ap (λ i. get_or (set marks place false) i false) e ∙ get_or-set_same marks place false false at.within) ∙ m.marked)))
      | inr ne ↦ (elsewhere false k b ne m, λ is. not_twice k ne m.inside (m.here ∙ is))
    ]

-- where nothing is written, all stay
pub all_stay : (rows : List ℕ) (a : ℕ) (marks : List Bool) → KeepsOthers rows a marks marks
all_stay rows a marks k b m = inl m

-- without marks each mark is anything
pub none_left : (P : ℕ → Type 0) (rows : List ℕ) (old new : List Bool) → new ≡ [] → KeepsStrangers P rows old new
none_left P rows old new is k b m = let no : false ≡ true = sym (ap (λ l. get_or l k false) is) ∙ m.marked in absurd cc

-- one neighbour more
pub neighbour_more : (rows : List ℕ) (old mid new : List Bool) (xs : List Neighbour) (i : ℕ) (x : Neighbour) → i < length xs → x ≡ get_or xs i x
    → KeepsStrangers (λ b. occurs b (asns (take i xs)) ≡ true) rows old mid → KeepsStrangers (λ b. b ≡ x.asn) rows mid new → KeepsStrangers (λ b. occurs b (asns (take (i + 1) xs)) ≡ true) rows old new
neighbour_more rows old mid new xs i x less at before step k b m =
    let s = step k b m in
    let t = before k b s.0 in (
      t.0,
      λ there. elim (among_more xs i b x less there) [
        | inl e ↦ s.1 (sym (ap (λ (y : Neighbour). y.asn) at ∙ e))
        | inr earlier ↦ t.1 earlier
      ],
    )

-- those among all neighbours are those that are linked
pub linked_among : (relation : ℕ → ℕ → Option Rel) (a : ℕ) (xs : List Neighbour) → AreNeighbours relation a xs → (rows : List ℕ) (old new : List Bool)
    → KeepsStrangers (λ b. occurs b (asns xs) ≡ true) rows old new → KeepsStrangers (λ b. IsSome (relation a b)) rows old new
linked_among relation a xs near rows old new kept k b m = let t = kept k b m in (t.0, λ some. t.1 (by (relation a b) refl some))
  where
    by : (o : Option Rel) → relation a b ≡ o → is_some o ≡ true → occurs b (asns xs) ≡ true
    by None is some = cc some
    by (Some r) is some = near.complete b r is

none_of : (o : Option Rel) → (IsSome o → ⊥) → o ≡ None
none_of None never = refl
none_of (Some r) never = absurd (never refl)

-- what a turn makes of marks, without a change and with one
pub renewed_still : (relation : ℕ → ℕ → Option Rel) (a : ℕ) (changed : Bool) → changed ≡ false → (rows : List ℕ) (old new : List Bool) → KeepsOthers rows a old new → IsRenewed relation a changed rows old new
renewed_still relation a changed none rows old new put k b m = elim (put k b m) [ inl before ↦ inl (before, λ some. absurd (true≢false (sym some ∙ none))) | inr e ↦ inr e ]

pub renewed_after : (relation : ℕ → ℕ → Option Rel) (a : ℕ) (changed : Bool) (rows : List ℕ) (old mid new : List Bool) → KeepsStrangers (λ b. IsSome (relation a b)) rows old mid → KeepsOthers rows a mid new → IsRenewed relation a changed rows old new
renewed_after relation a changed rows old mid new taken put k b m = elim (put k b m) [
  | inl before ↦ (let t = taken k b before in inl (t.0, λ _. none_of (relation a b) t.1))
  | inr e ↦ inr e
]
