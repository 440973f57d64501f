-- Lone ASes.
use Rattle.std.proofs.Common.{◌≡◌, ◌≢◌, ◌<◌, inl, inr, ℕ, ◌&&◌, ◌||◌, not, Bool, true, false, cond, None, Some, List, [], ◌∷◌, length, refl, sym, ap, subst, ◌∙◌, arith, true≢false}
use Rattle.std.specs.Prelude.{filter, nat_eq, nat_lt, option_map}
use Rattle.std.specs.List.{AllByRecursion, IsDistinct}
use Rattle.std.specs.FinMap as fin
use Rattle.std.specs.FinSet as set
use Rattle.std.specs.Ordering.{nat_cmp}
use Rattle.std.proofs.lemmas.Bool.{lt-ltb}
use Rattle.net_names.specs.Links.{LinkMap, converse}
use Rattle.net_names.specs.Numbers.{occurs}
use Rattle.net_names.specs.declared.routes.Rel.{Rel}
use Rattle.as_graph.specs.Neighbours.{AreNeighbours}
use Rattle.as_graph.specs.Topology.{Topology, has, relation, unmarked}
use Rattle.as_graph.specs.declared.neighbour.Neighbour.{Neighbour}
use Rattle.as_graph.proofs.Links.{ends_of, linked_end, relation_mutual}
use Rattle.as_graph.proofs.RowAses.{end_found, occurs-append, occurs-items}
use Rattle.stability_laws.specs.Plans.{Plan}
use Rattle.sim_core.proofs.Rows.{in_filter}
use Rattle.trial_world.specs.Fixed.{AreLone, is_lone, is_named}

pub off : (t : Bool) → (t ≡ true → ⊥) → t ≡ false
off true h = absurd (h refl)
off false h = refl

-- ends of links are the ASes of the graph without marks
pub ends_alone : (links : LinkMap) (a : ℕ) → has (unmarked links) a ≡ occurs a (ends_of (fin.entries links))
ends_alone links a = occurs-append a (set.items set.empty) (ends_of (fin.entries links)) ∙ ap (λ t. t || occurs a (ends_of (fin.entries links))) (occurs-items set.empty a ∙ set.contains-empty nat_cmp a)

-- each link stands at the pair with the lower end first
abbrev pub AreLower : LinkMap → Type 0
AreLower links = (p : ℕ × ℕ) (r : Rel) → fin.get links p ≡ Some r → p.0 < p.1

-- where the lower ends stand first, each end of a link has a neighbour
pub end_linked : (links : LinkMap) → AreLower links → (a : ℕ) → has (unmarked links) a ≡ true → (b : ℕ) × (r : Rel) × (relation (unmarked links) a b ≡ Some r)
end_linked links lower a h =
    let (q, r, found, is_end) = end_found (fin.entries links) a (sym (ends_alone links a) ∙ h) in
    let got : fin.get links q ≡ Some r = fin.get-entries links q ∙ found in
    let up : relation (unmarked links) q.0 q.1 ≡ Some r = ap (λ t. cond t (fin.get links q) (cond (nat_lt q.1 q.0) (option_map converse (fin.get links (q.1, q.0))) None)) (lt-ltb q.0 q.1 (lower q r got)) ∙ got in
    elim is_end [
      | inl low ↦ (q.1, r, ap (λ x. relation (unmarked links) x q.1) (sym low) ∙ up)
      | inr high ↦ (q.0, converse r, ap (λ x. relation (unmarked links) x q.0) (sym high) ∙ relation_mutual (unmarked links) q.0 q.1 ∙ ap (option_map converse) up)
    ]

-- who has no neighbour is no end of a link
pub no_end : (g : Topology) → AreLower g.links → (a : ℕ) → AreNeighbours (relation g) a [] → has (unmarked g.links) a ≡ false
no_end g lower a none = off (has (unmarked g.links) a) (λ h. (let (b, r, is) = end_linked g.links lower a h in true≢false (sym (none.complete b r is))))

-- who has one is an end
pub some_end : (g : Topology) (a : ℕ) (n : Neighbour) (ns : List Neighbour) → AreNeighbours (relation g) a (n ∷ ns) → has (unmarked g.links) a ≡ true
some_end g a n ns near = linked_end (unmarked g.links) n.asn a (converse n.rel) (relation_mutual (unmarked g.links) a n.asn ∙ ap (option_map converse) (near.each 0 n (omega arith)))

-- ---- a test that picks some of distinct numbers
all_filter : (P : ℕ → Type 0) (test : ℕ → Bool) (ks : List ℕ) → AllByRecursion P ks → AllByRecursion P (filter test ks)
all_filter P test [] h = h
all_filter P test (k ∷ ks) h = by (test k) (all_filter P test ks h.1)
  where
    by : (t : Bool) → AllByRecursion P (filter test ks) → AllByRecursion P (cond t (k ∷ filter test ks) (filter test ks))
    by true rest = (h.0, rest)
    by false rest = rest

pub filter_apart : (test : ℕ → Bool) (ks : List ℕ) → IsDistinct nat_eq ks → IsDistinct nat_eq (filter test ks)
unfolding IsDistinct
filter_apart test [] d = d
filter_apart test (k ∷ ks) d = by (test k) (filter_apart test ks d.1)
  where
    by : (t : Bool) → IsDistinct nat_eq (filter test ks) → IsDistinct nat_eq (cond t (k ∷ filter test ks) (filter test ks))
    by true rest = (all_filter (λ y. nat_eq k y ≡ false) test ks d.0, rest)
    by false rest = rest

pub picked : (g : Topology) (plan : Plan) (ks lone : List ℕ) → IsDistinct nat_eq ks → ((a : ℕ) → occurs a ks ≡ has g a) → lone ≡ filter (is_lone g plan) ks → AreLone g plan lone
picked g plan ks lone apart listed is = record {
  apart = subst (IsDistinct nat_eq) (sym is) (filter_apart (is_lone g plan) ks apart);
  are = λ a. ap (occurs a) is ∙ in_filter (is_lone g plan) ks a ∙ and_turned (is_lone g plan a) (occurs a ks) ∙ ap (λ t. t && is_lone g plan a) (listed a);
}
  where
    and_turned : (s t : Bool) → (s && t) ≡ (t && s)
    and_turned true true = refl
    and_turned true false = refl
    and_turned false true = refl
    and_turned false false = refl

-- ---- whether an AS is lone
pub lone_if : (g : Topology) (plan : Plan) → AreLower g.links → (a : ℕ) (ns : List Neighbour) → AreNeighbours (relation g) a ns → length ns ≡ 0 → {named : Bool} → named ≡ is_named plan a → not named ≡ is_lone g plan a
lone_if g plan lower a [] near none {named} is = ap not is ∙ ap (λ t. not t && not (is_named plan a)) (sym (no_end g lower a near))
lone_if g plan lower a (n ∷ ns) near none {named} is = absurd (omega (arith, none))

pub not_lone : (g : Topology) (plan : Plan) (a : ℕ) (ns : List Neighbour) → AreNeighbours (relation g) a ns → length ns ≢ 0 → false ≡ is_lone g plan a
not_lone g plan a [] near some = absurd (some refl)
not_lone g plan a (n ∷ ns) near some = ap (λ t. not t && not (is_named plan a)) (sym (some_end g a n ns near))
