-- The steps of a renewal, one after the other.
use Rattle.std.proofs.Common.{◌≡◌, ◌≢◌, ◌⊎◌, inl, inr, ⊎_elim, ℕ, ◌<◌, ◌≤◌, Bool, true, false, Option, Some, None, List, [], length, get_or, take, refl, sym, ◌∙◌, ap, subst, arith, cond}
use Rattle.std.specs.Prelude.{nat_eq}
use Rattle.std.specs.List.{list_any, range_with_len}
use Rattle.std.proofs.lemmas.Bool.{cases_lt, cases_Bool}
use Rattle.std.proofs.lemmas.List.{get_or-take, get_or_past, length-take}
use Rattle.std.proofs.lemmas.List.Sums.{count_by-le-length}
use Rattle.std.proofs.lemmas.Map.Keys.{IsDistinct-from_apart}
use Rattle.data_trace.specs.declared.kinds.Hop.{Hop}
use Rattle.data_trace.specs.declared.kinds.Hop.TheVariants as hop
use Rattle.data_trace.specs.declared.places.PlaceHop.{PlaceHop}
use Rattle.data_trace.specs.declared.places.PlaceHop.TheVariants.{NoRoute}
use Rattle.data_trace.specs.declared.places.PlaceEnd.{PlaceEnd}
use Rattle.data_trace.specs.declared.places.Mark.{Mark}
use Rattle.data_trace.specs.declared.places.Mark.TheVariants.{Unknown, Walked, Known}
use Rattle.data_trace.specs.Traces.{IsIn}
use Rattle.data_trace.specs.Steps.{Ends}
use Rattle.data_trace.specs.Marks.{mark_of, as_hop, as_end, hop_at, next_of, is_known, IsWithin, AreRight, AreEnds}
use Rattle.data_trace.specs.Lists.{link_at, target, HasLists, owner_but}
use Rattle.data_trace.specs.Spreads.{IsFront, HasSpread}
use Rattle.data_trace.proofs.Traces.{HasTrace, in_at, at_in, trace_exists, trace_ends}
use Rattle.data_trace.proofs.Ends.{one_end}
use Rattle.data_trace.proofs.Building.{range_all}
use Rattle.data_trace.proofs.Seen.{key, key_same, to_is}
use Rattle.std.proofs.Math.Logic.{∥∥₁_elim}
use mathlib.Core.HLevel.{⊥_prop}
use Rattle.std.proofs.Math.Nat.{ℕ_set}
use Rattle.data_trace.proofs.Walking.{known_unknown, walked_unknown}
use Rattle.data_trace.proofs.Closing.{right_still}

walked_known : (e : PlaceEnd) → Walked ≡ Known e → ⊥
walked_known e q = cc

known_same : (d e : PlaceEnd) → Known d ≡ Known e → d ≡ e
known_same d e q = cc

-- where all ends are known, they are right
pub right_from_ends : (hops : List PlaceHop) (marks : List Mark) → IsWithin hops → AreEnds (next_of hops) (length hops) marks → AreRight (next_of hops) marks
right_from_ends hops marks within h = record {
  known = λ x e m. known x e m (cases_lt x (length hops));
  none_walked = λ x m. walked x m (cases_lt x (length hops));
} where
  closed : (a b : ℕ) → next_of hops a ≡ hop.To b → IsIn b (range_with_len 0 (length hops))
  closed a b e = range_all (length hops) b (within a b (to_is (hop_at hops a) b e))

  known : (x : ℕ) (e : PlaceEnd) → mark_of marks x ≡ Known e → (x < length hops) ⊎ (length hops ≤ x) → Ends (next_of hops) x (as_end e)
  known x e m (inr g) = absurd (known_unknown e (sym m ∙ get_or_past marks x Unknown (omega (arith, g, h.len))))
  known x e m (inl l) =
      let t : HasTrace (next_of hops) x = trace_exists (next_of hops) (range_with_len 0 (length hops)) closed x in
      let k : key t.1 ≡ key (as_end e) = ∥∥₁_elim (h.ends x l) (ℕ_set (key t.1) (key (as_end e)))
      (λ r. ap key (one_end (next_of hops) x (as_end r.0) t.1 r.2 (trace_ends (next_of hops) x t.0 t.1 t.2)) ∙ ap (λ (d : PlaceEnd). key (as_end d)) (known_same r.0 e (sym r.1 ∙ m))) in
      subst (Ends (next_of hops) x) (key_same t.1 (as_end e) k) (trace_ends (next_of hops) x t.0 t.1 t.2)

  walked : (x : ℕ) → mark_of marks x ≡ Walked → (x < length hops) ⊎ (length hops ≤ x) → ⊥
  walked x m (inl l) = ∥∥₁_elim (h.ends x l) ⊥_prop (λ r. walked_known r.0 (sym m ∙ r.1))
  walked x m (inr g) = walked_unknown (sym m ∙ get_or_past marks x Unknown (omega (arith, g, h.len)))

pub front_none : (next : ℕ → Hop) (marks : List Mark) → AreEnds next (length marks) marks → IsFront marks marks []
front_none next marks h = record {
  len = refl;
  within = λ k l. absurd (omega arith);
  unknown = λ k l. absurd (omega arith);
  in_queue = λ x l u. absurd (∥∥₁_elim (h.ends x l) ⊥_prop (λ r. known_unknown r.0 (sym r.1 ∙ u)));
  kept = λ x n. refl;
  distinct = IsDistinct-from_apart nat_eq [] (λ i j d l m. absurd (omega arith));
  room = omega (arith, count_by-le-length is_known marks);
}

pub front_self : (old marks : List Mark) (queue : List ℕ) → IsFront old marks queue → IsFront marks marks queue
front_self old marks queue w = record {
  len = refl;
  within = w.within;
  unknown = w.unknown;
  in_queue = w.in_queue;
  kept = λ x n. refl;
  distinct = w.distinct;
  room = omega (arith, w.room, w.len);
}

pub front_then : (old marks marks' : List Mark) (queue queue' : List ℕ) → IsFront old marks queue → IsFront marks marks' queue' → IsFront old marks' queue'
front_then old marks marks' queue queue' v w = record {
  len = w.len ∙ v.len;
  within = w.within;
  unknown = w.unknown;
  in_queue = w.in_queue;
  kept = λ x n. w.kept x n ∙ v.kept x (subst (λ t. t ≢ Unknown) (w.kept x n) n);
  distinct = w.distinct;
  room = omega (arith, w.room, v.len);
}

module _ (hops : List PlaceHop) (old marks : List Mark) (roots queue : List ℕ) (first before after : List (Option ℕ)) (w : IsFront old marks queue) (len : length old ≡ length hops)
    (lists : HasLists hops roots first before after) (spread : HasSpread (link_at first) (link_at after) marks queue (length roots) (length queue)) (begin : take (length roots) queue ≡ roots) (fits : length roots ≤ length queue) where
  root_at : (k : ℕ) → k < length roots → get_or queue k 0 ≡ get_or roots k 0
  root_at k l = sym (get_or-take (length roots) queue k 0 l) ∙ ap (λ q. get_or q k 0) begin

  -- what is known is no root
  no_root : (x : ℕ) → mark_of marks x ≢ Unknown → list_any (nat_eq x) roots ≡ false
  no_root x n = ⊎_elim (λ (h : IsIn x roots). absurd (no h)) (λ h. h) (cases_Bool (list_any (nat_eq x) roots))
    where
      no : IsIn x roots → ⊥
      no h = let r : (k : ℕ) × (k < length roots) × (get_or roots k 0 ≡ x) = in_at x roots h in
          n (ap (mark_of marks) (sym (root_at r.0 r.1 ∙ r.2)) ∙ w.unknown r.0 (omega (arith, r.1, fits)))

  -- the ends that are still known are right for next hops that differ at the roots alone
  pub renewed_right : (hops' : List PlaceHop) → IsWithin hops → AreRight (next_of hops) old → ((x : ℕ) → list_any (nat_eq x) roots ≡ false → hop_at hops' x ≡ hop_at hops x) → AreRight (next_of hops') marks
  renewed_right hops' within right others =
      right_still (owner_but hops roots) (link_at first) (link_at before) (link_at after) old marks queue (length roots) lists.lists w spread
      inside
      (λ k l. ap (owner_but hops roots) (root_at k l) ∙ ap (λ b. cond b None (target (hop_at hops (get_or roots k 0)))) (at_in roots k l))
      (hop_at hops) (next_of hops') right
      (λ x n. ap (λ b. cond b None (target (hop_at hops x))) (no_root x n))
      (λ x n. ap as_hop (others x (no_root x n)))
      (λ x y e. omega (arith, within x y e, len, w.len))
    where
      none_some : (b : ℕ) → None ≡ Some b → ⊥
      none_some b e = cc

      inside : (a b : ℕ) → owner_but hops roots a ≡ Some b → a < length marks
      inside a b e = ⊎_elim (λ (l : a < length hops). omega (arith, l, len, w.len)) (λ (g : length hops ≤ a). absurd (past g (list_any (nat_eq a) roots) e)) (cases_lt a (length hops))
        where
          past : length hops ≤ a → (v : Bool) → cond v None (target (hop_at hops a)) ≡ Some b → ⊥
          past g true q = none_some b q
          past g false q = none_some b (sym (ap target (get_or_past hops a NoRoute g)) ∙ q)

-- after the walks from the queue no place is unknown
pub none_unknown : (old marks marks' : List Mark) (queue : List ℕ) → IsFront old marks queue → ((x : ℕ) → mark_of marks x ≢ Unknown → mark_of marks' x ≡ mark_of marks x) →
    ((k : ℕ) → k < length queue → mark_of marks' (get_or queue k 0) ≢ Unknown) → (x : ℕ) → x < length old → mark_of marks' x ≢ Unknown
none_unknown old marks marks' queue w kept known x l u = by (is_it (mark_of marks x))
  where
    is_it : (m : Mark) → (m ≡ Unknown) ⊎ (m ≢ Unknown)
    is_it Unknown = inl refl
    is_it Walked = inr walked_unknown
    is_it (Known e) = inr (known_unknown e)

    by : (mark_of marks x ≡ Unknown) ⊎ (mark_of marks x ≢ Unknown) → ⊥
    by (inl e) = let r : (k : ℕ) × (k < length queue) × (get_or queue k 0 ≡ x) = in_at x queue (w.in_queue x (omega (arith, l, w.len)) e) in known r.0 r.1 (ap (mark_of marks') r.2 ∙ u)
    by (inr n) = n (sym (kept x n) ∙ u)

pub fits_from_take : (xs ys : List ℕ) → take (length xs) ys ≡ xs → length xs ≤ length ys
fits_from_take xs ys e = omega (arith, ap length e, length-take (length xs) ys)
