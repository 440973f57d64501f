-- The links of a topology are seen alike from both ends, and join its ASes.
use Rattle.std.proofs.Common.{◌≡◌, ℕ, ◌<◌, Bool, true, false, ◌||◌, ◌==◌, cond, nat_lt, Option, Some, None, option_map, List, [], ◌∷◌, refl, sym, ◌∙◌, ap, arith}
use Rattle.std.proofs.lemmas.Bool.{or_right, ltb-true, eq-eqb}
use Rattle.std.proofs.lemmas.Map.Lookups.{exact_pairs, exact_unsigned}
use Rattle.std.specs.Ordering.{nat_cmp, eq_by_cmp}
use Rattle.std.specs.FinMap as map
use Rattle.std.specs.FinSet as set
use Rattle.std.specs.List.{flat_map}
use Rattle.net_names.specs.declared.routes.Rel.{Rel}
use Rattle.net_names.specs.declared.routes.Rel.TheVariants.{Customer, Peer, Provider}
use Rattle.net_names.specs.Links.{pair_cmp, converse}
use Rattle.net_names.specs.Numbers.{occurs}
use Rattle.as_graph.specs.Topology.{Topology, relation, ases}
use Rattle.as_graph.proofs.Chains.{IsMutual, AreLinks}
pub use Rattle.net_names.proofs.Shared.{is_equal}
use Rattle.net_names.proofs.Shared.{occurs_right}

pub twice : (r : Option Rel) → r ≡ option_map converse (option_map converse r)
twice None = refl
twice (Some Customer) = refl
twice (Some Peer) = refl
twice (Some Provider) = refl

mutual_by : (x y : Bool) (p q : Option Rel) → (x ≡ true → y ≡ true → ⊥) → cond y q (cond x (option_map converse p) None) ≡ option_map converse (cond x p (cond y (option_map converse q) None))
mutual_by true true p q n = absurd (n refl refl)
mutual_by true false p q n = refl
mutual_by false true p q n = twice q
mutual_by false false p q n = refl

pub relation_mutual : (g : Topology) → IsMutual (relation g)
relation_mutual g a b = mutual_by (nat_lt a b) (nat_lt b a) (map.get g.links (a, b)) (map.get g.links (b, a)) (λ x y. let h : a < b = ltb-true a b x in let k : b < a = ltb-true b a y in absurd (omega arith))

-- both ends of each link
abbrev pub ends_of : List ((ℕ × ℕ) × Rel) → List ℕ
ends_of es = flat_map (λ e. e.0.0 ∷ e.0.1 ∷ []) es

-- a pair that has an entry is of two ends
pub found : (es : List ((ℕ × ℕ) × Rel)) (q : ℕ × ℕ) (r : Rel) → map.find pair_cmp q es ≡ Some r → (occurs q.0 (ends_of es) ≡ true) × (occurs q.1 (ends_of es) ≡ true)
found [] q r h = cc
found (e ∷ es) q r h = by (eq_by_cmp pair_cmp q e.0) refl (found es q r)
  where
    by : (b : Bool) → eq_by_cmp pair_cmp q e.0 ≡ b → (map.find pair_cmp q es ≡ Some r → (occurs q.0 (ends_of es) ≡ true) × (occurs q.1 (ends_of es) ≡ true)) → (occurs q.0 (ends_of (e ∷ es)) ≡ true) × (occurs q.1 (ends_of (e ∷ es)) ≡ true)
    by true is ih =
        let same : q ≡ e.0 = exact_pairs nat_cmp nat_cmp exact_unsigned exact_unsigned q e.0 (is_equal _ is) in (
          ap (λ b. b || (e.0.1 == q.0 || occurs q.0 (ends_of es))) (eq-eqb e.0.0 q.0 (sym (ap (λ (p : ℕ × ℕ). p.0) same))),
          or_right (e.0.0 == q.1) _ (ap (λ b. b || occurs q.1 (ends_of es)) (eq-eqb e.0.1 q.1 (sym (ap (λ (p : ℕ × ℕ). p.1) same)))),
        )
    by false is ih =
        let rest = ih (sym (ap (λ b. cond b (Some e.1) (map.find pair_cmp q es)) is) ∙ h) in
        (or_right (e.0.0 == q.0) _ (or_right (e.0.1 == q.0) _ rest.0), or_right (e.0.0 == q.1) _ (or_right (e.0.1 == q.1) _ rest.1))

pub linked_end : (g : Topology) (a b : ℕ) (r : Rel) → relation g a b ≡ Some r → occurs b (ases g) ≡ true
linked_end g a b r h = by (nat_lt a b) (nat_lt b a) h
  where
    there : (p : ℕ × ℕ) (s : Rel) → map.get g.links p ≡ Some s → (occurs p.0 (ends_of (map.entries g.links)) ≡ true) × (occurs p.1 (ends_of (map.entries g.links)) ≡ true)
    there p s e = found (map.entries g.links) p s (sym (map.get-entries g.links p) ∙ e)

    turned : (o : Option Rel) → option_map converse o ≡ Some r → (s : Rel) × (o ≡ Some s)
    turned None e = cc
    turned (Some s) e = (s, refl)

    by : (x y : Bool) → cond x (map.get g.links (a, b)) (cond y (option_map converse (map.get g.links (b, a))) None) ≡ Some r → occurs b (ases g) ≡ true
    by true y e = occurs_right b (set.items g.marked) _ (there (a, b) r e).1
    by false true e = let (s, is) = turned (map.get g.links (b, a)) e in occurs_right b (set.items g.marked) _ (there (b, a) s is).0
    by false false e = cc

pub topology-AreLinks : (g : Topology) → AreLinks (relation g) (ases g)
topology-AreLinks g = record { alike = relation_mutual g; ends = linked_end g }

not_below : (a : ℕ) (b : Bool) → nat_lt a a ≡ b → b ≡ false
not_below a true e = let h : a < a = ltb-true a a e in absurd (omega arith)
not_below a false e = refl

-- an AS is nothing to itself
pub relation_self : (g : Topology) (a : ℕ) → relation g a a ≡ None
relation_self g a = let e = not_below a (nat_lt a a) refl in
    ap (λ b. cond b (map.get g.links (a, a)) (cond b (option_map converse (map.get g.links (a, a))) None)) e
