-- The entries of a table are counted.
use Rattle.std.proofs.Common.{◌≡◌, ℕ, ◌≤◌, Bool, true, false, cond, ◌==◌, List, [], ◌∷◌, length, Option, Some, None, nat_eq, unwrap_or, refl, sym, ap, subst, ◌∙◌, arith, inl, inr}
use Rattle.std.specs.Prelude.{IsSome}
use Rattle.std.specs.List.{sum_by, IsDistinct as AreDistinct}
use Rattle.std.specs.Map.{keys_of, values_of, lookup}
use Rattle.std.proofs.lemmas.Bool.{true≢false, cases_Bool, or_cases, or_left, or_right, eqb-true, eq-eqb, ne_eqb, cases_eq}
use Rattle.std.proofs.lemmas.List.Sums.{sum_by-cons}
use Rattle.net_names.specs.Numbers.{occurs, IsDistinct}
use Rattle.net_names.proofs.Distinct.{not_in}
use Rattle.path_pool.specs.declared.pool.PathPool.{PathPool}
use Rattle.path_pool.specs.Pool.{IsLive, holds_of}
use Rattle.route_choice.specs.declared.held.Held.{Held}
use Rattle.route_choice.specs.declared.overlay.Overlay.{Overlay}
use Rattle.route_choice.specs.declared.table.Table.{Table}
use Rattle.route_choice.specs.Slots.{use_of}
use Rattle.route_choice.specs.Tables.{held_at, change_at, places_of, overlay_uses, table_uses}
use Rattle.route_choice.proofs.Lists.{entry_live}

-- ASes that hold something, as many as use the path
pub record Found (es : List (ℕ × Option Held)) (k : ℕ) : Type 0 where
  pub ases : List ℕ
  pub distinct : IsDistinct ases
  pub inside : (a : ℕ) → occurs a ases ≡ true → occurs a (keys_of es) ≡ true
  pub entries : (a : ℕ) → occurs a ases ≡ true → IsSome (unwrap_or (lookup (nat_eq a) es) None)
  pub enough : sum_by (use_of k) (values_of es) ≤ length ases

one_most : (k : ℕ) (h : Held) → use_of k (Some h) ≤ 1
one_most k h = by (h.path.0 == k)
  where
    by : (b : Bool) → cond b 1 0 ≤ 1
    by true = omega arith
    by false = omega arith

module _ (e : ℕ × Option Held) (es : List (ℕ × Option Held)) (k : ℕ) (alone : occurs e.0 (keys_of es) ≡ false) (f : Found es k) where
  later : (a : ℕ) → occurs a f.ases ≡ true → IsSome (unwrap_or (lookup (nat_eq a) (e ∷ es)) None)
  later a o = elim (cases_eq a e.0) [
    | inl same ↦ absurd (true≢false (sym (subst (λ n. occurs n (keys_of es) ≡ true) same (f.inside a o)) ∙ alone))
    | inr ne ↦ rw (ne_eqb a e.0 ne) (f.entries a o)
  ]

  found_more : (o : Option Held) → e.1 ≡ o → Found (e ∷ es) k
  found_more None is = record {
    ases = f.ases;
    distinct = f.distinct;
    inside = λ a o. or_right (e.0 == a) (occurs a (keys_of es)) (f.inside a o);
    entries = later;
    enough = omega (arith, sum_by-cons (use_of k) e.1 (values_of es), ap (use_of k) is, f.enough);
  }
  found_more (Some h) is = record {
    ases = e.0 ∷ f.ases;
    distinct = (elim (cases_Bool (occurs e.0 f.ases)) [ inl t ↦ absurd (true≢false (sym (f.inside e.0 t) ∙ alone)) | inr n ↦ n ], f.distinct);
    inside = λ a o. elim (or_cases (e.0 == a) (occurs a f.ases) o) [ inl here ↦ or_left (e.0 == a) (occurs a (keys_of es)) here | inr r ↦ or_right (e.0 == a) (occurs a (keys_of es)) (f.inside a r) ];
    entries = λ a o. elim (or_cases (e.0 == a) (occurs a f.ases) o) [ inl here ↦ rw (eq-eqb a e.0 (sym (eqb-true e.0 a here)), is) refl | inr r ↦ later a r ];
    enough = omega (arith, sum_by-cons (use_of k) e.1 (values_of es), ap (use_of k) is, one_most k h, f.enough);
  }

pub found_all : (es : List (ℕ × Option Held)) (k : ℕ) → AreDistinct nat_eq (keys_of es) → Found es k
unfolding AreDistinct
found_all [] k d = record { ases = []; distinct = tt; inside = λ a o. cc; entries = λ a o. cc; enough = omega arith }
found_all (e ∷ es) k d = found_more e es k (not_in (keys_of es) e.0 d.0) (found_all es k d.1) e.1 refl

-- the paths of a table's entries are live where the pool has their holds
pub held_is_live : (pool : PathPool) (t : Table) → ((k : ℕ) → table_uses t k ≤ holds_of pool k) → (a : ℕ) (h : Held) → held_at t a ≡ Some h → IsLive pool h.path.0
held_is_live pool t held a h e = entry_live pool t.slots held a h e

-- so are those of an overlay's entries
pub change_is_live : (pool : PathPool) (o : Overlay) → ((k : ℕ) → overlay_uses o k ≤ holds_of pool k) → (a : ℕ) (h : Held) → change_at o a ≡ Some (Some h) → IsLive pool h.path.0
change_is_live pool o held a h e = entry_live pool o.changes held a h (ap (λ (x : Option (Option Held)). unwrap_or x None) e)

uses-le : (k : ℕ) (es : List (ℕ × Option Held)) → sum_by (use_of k) (values_of es) ≤ length (keys_of es)
uses-le k [] = omega arith
uses-le k (e ∷ es) = omega (arith, sum_by-cons (use_of k) e.1 (values_of es), most e.1, uses-le k es)
  where
    most : (o : Option Held) → use_of k o ≤ 1
    most None = omega arith
    most (Some h) = one_most k h

-- no path is used by more entries of an overlay than there are ASes that have a change
pub overlay_uses-le : (o : Overlay) (k : ℕ) → overlay_uses o k ≤ length (places_of o)
overlay_uses-le o k = uses-le k o.changes.entries
