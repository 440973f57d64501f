-- After the spread no packet of a place that is still known passes a forgotten one.
use Rattle.std.proofs.Common.{◌≡◌, ◌≢◌, ◌⊎◌, inl, inr, ⊎_elim, ℕ, zero, suc, ◌<◌, ◌≤◌, Option, Some, None, List, length, get_or, sym, ◌∙◌, ap, subst, arith}
use Rattle.std.proofs.lemmas.Bool.{cases_lt}
use Rattle.std.proofs.Math.Logic.{∥∥₁_elim}
use mathlib.Core.HLevel.{⊥_prop}
use Rattle.data_trace.specs.declared.kinds.Hop.{Hop}
use Rattle.data_trace.specs.declared.kinds.Hop.TheVariants as hop
use Rattle.data_trace.specs.declared.places.PlaceHop.{PlaceHop}
use Rattle.data_trace.specs.declared.places.PlaceHop.TheVariants as place_hop
use Rattle.data_trace.specs.declared.places.PlaceEnd.{PlaceEnd}
use Rattle.data_trace.specs.declared.places.Mark.{Mark}
use Rattle.data_trace.specs.declared.places.Mark.TheVariants.{Unknown, Known}
use Rattle.data_trace.specs.Marks.{mark_of, as_hop, as_end, AreRight}
use Rattle.data_trace.specs.Lists.{AreLists, target}
use Rattle.data_trace.specs.Spreads.{IsFront, HasSpread}
use Rattle.data_trace.proofs.Ends.{ends_same}
use Rattle.data_trace.proofs.Traces.{in_at}
use Rattle.data_trace.proofs.Walking.{walked_unknown, known_unknown}
use Rattle.data_trace.proofs.ListLemmas.{or_none}
use Rattle.data_trace.proofs.Seen.{to_is}

module _ (owner first before after : ℕ → Option ℕ) (rank : ℕ → ℕ) (old marks : List Mark) (queue : List ℕ) (roots : ℕ)
    (h : AreLists owner first before after rank) (w : IsFront old marks queue) (s : HasSpread first after marks queue roots (length queue))
    (inside : (a b : ℕ) → owner a ≡ Some b → a < length marks) (out : (k : ℕ) → k < roots → owner (get_or queue k 0) ≡ None) where
  -- who sends to a forgotten place is forgotten
  pub senders_forgotten : (n a b : ℕ) → rank a < n → owner a ≡ Some b → b < length marks → mark_of marks b ≡ Unknown → mark_of marks a ≡ Unknown
  senders_forgotten zero a b l o m u = absurd (omega arith)
  senders_forgotten (suc n) a b l o m u = by (or_none (before a)) (λ p lp op up. senders_forgotten n p b lp op m up)
    where
      by : (before a ≡ None) ⊎ ((p : ℕ) × (before a ≡ Some p)) → ((p : ℕ) → rank p < n → owner p ≡ Some b → mark_of marks b ≡ Unknown → mark_of marks p ≡ Unknown) → mark_of marks a ≡ Unknown
      by (inl e) f =
          let r : (k : ℕ) × (k < length queue) × (get_or queue k 0 ≡ b) = in_at b queue (w.in_queue b m u) in
          s.firsts r.0 a r.1 (ap first r.2 ∙ h.front a b o e)
      by (inr p) f =
          let k : (owner p.0 ≡ Some b) × (after p.0 ≡ Some a) × (rank p.0 < rank a) = h.behind a b p.0 o p.1 in
          let up : mark_of marks p.0 ≡ Unknown = f p.0 (omega (arith, k.2, l)) k.0 u in
          let r : (k : ℕ) × (k < length queue) × (get_or queue k 0 ≡ p.0) = in_at p.0 queue (w.in_queue p.0 (inside p.0 b k.0) up) in
          ⊎_elim (λ (q : r.0 < roots). let z : None ≡ Some b = sym (out r.0 q) ∙ ap owner r.2 ∙ k.0 in cc)
          (λ (q : roots ≤ r.0). s.afters r.0 a r.1 q (ap after r.2 ∙ k.1)) (cases_lt r.0 roots)

-- so what is still known is right for the new next hops
pub right_still : (owner first before after : ℕ → Option ℕ) (old marks : List Mark) (queue : List ℕ) (roots : ℕ) →
    ∥ ((rank : ℕ → ℕ) × AreLists owner first before after rank) ∥₁ → IsFront old marks queue → HasSpread first after marks queue roots (length queue) →
    ((a b : ℕ) → owner a ≡ Some b → a < length marks) → ((k : ℕ) → k < roots → owner (get_or queue k 0) ≡ None) →
    (place : ℕ → PlaceHop) (other : ℕ → Hop) → AreRight (λ x. as_hop (place x)) old →
    ((x : ℕ) → mark_of marks x ≢ Unknown → owner x ≡ target (place x)) → ((x : ℕ) → mark_of marks x ≢ Unknown → other x ≡ as_hop (place x)) → ((x y : ℕ) → place x ≡ place_hop.To y → y < length marks) → AreRight other marks
right_still owner first before after old marks queue roots h w s inside out place other right own same small = record {
  known = λ x e m. ends_same (λ x. as_hop (place x)) other (λ y. mark_of marks y ≢ Unknown) same closed x (still x e m) (as_end e) (right.known x e (sym (w.kept x (still x e m)) ∙ m));
  none_walked = λ x m. right.none_walked x (sym (w.kept x (subst (λ t. t ≢ Unknown) (sym m) walked_unknown)) ∙ m);
} where
  still : (x : ℕ) (e : PlaceEnd) → mark_of marks x ≡ Known e → mark_of marks x ≢ Unknown
  still x e m = subst (λ t. t ≢ Unknown) (sym m) (known_unknown e)

  closed : (x y : ℕ) → mark_of marks x ≢ Unknown → as_hop (place x) ≡ hop.To y → mark_of marks y ≢ Unknown
  closed x y k e u =
      let to : place x ≡ place_hop.To y = to_is (place x) y e in
      ∥∥₁_elim h ⊥_prop (λ r. k (senders_forgotten owner first before after r.0 old marks queue roots r.1 w s inside out (suc (r.0 x)) x y (omega arith) (own x k ∙ ap target to) (small x y to) u))
