-- The rows that the columns of a watch make are right.
use Rattle.std.proofs.Common.{◌≡◌, ◌⊎◌, inl, inr, ⊎_elim, ℕ, zero, suc, ◌+◌, ◌<◌, ◌≤◌, true, Option, Some, None, List, length, refl, sym, ◌∙◌, ap, subst, arith, cond}
use Rattle.std.specs.Prelude.{is_some, option_map}
use Rattle.std.proofs.Math.Logic.{∥∥₁_elim}
use mathlib.Core.HLevel.{⊥_prop}
use Rattle.std.proofs.Math.Nat.{ℕ_set}
use Rattle.std.proofs.lemmas.Bool.{cases_lt}
use Rattle.std.proofs.lemmas.List.{get_or_past}
use Rattle.as_graph.specs.Topology.{Topology, has}
use Rattle.data_trace.specs.declared.kinds.Hop.{Hop}
use Rattle.data_trace.specs.declared.kinds.Hop.TheVariants as hop
use Rattle.data_trace.specs.declared.kinds.End.{End}
use Rattle.data_trace.specs.declared.kinds.End.TheVariants as the_end
use Rattle.data_trace.specs.declared.places.PlaceHop.{PlaceHop}
use Rattle.data_trace.specs.declared.places.PlaceHop.TheVariants as place_hop
use Rattle.data_trace.specs.declared.places.PlaceEnd.{PlaceEnd}
use Rattle.data_trace.specs.declared.places.PlaceEnd.TheVariants as place_end
use Rattle.data_trace.specs.declared.places.Mark.{Mark}
use Rattle.data_trace.specs.declared.places.Mark.TheVariants.{Unknown, Walked, Known}
use Rattle.data_trace.specs.Traces.{IsIn, IsTrace}
use Rattle.data_trace.specs.Steps.{onward, reached, Ends}
use Rattle.data_trace.specs.Marks.{as_hop, as_end, hop_at, next_of, mark_of, AreEnds}
use Rattle.data_trace.specs.Columns.{name_at, named, named_end, told, fresh, AreHops}
use Rattle.data_trace.specs.Counted.{kept_end}
use Rattle.data_trace.proofs.Ends.{one_end, ends_in, ends_same}
use Rattle.data_trace.proofs.Traces.{HasTrace, trace_exists, trace_ends}

-- ---- ends over places are ends over ASes

here_is : (h : PlaceHop) → as_hop h ≡ hop.Here → h ≡ place_hop.Here
here_is place_hop.NoRoute e = cc
here_is place_hop.Here e = refl
here_is (place_hop.To y) e = cc

no_route_is : (h : PlaceHop) → as_hop h ≡ hop.NoRoute → h ≡ place_hop.NoRoute
no_route_is place_hop.NoRoute e = refl
no_route_is place_hop.Here e = cc
no_route_is (place_hop.To y) e = cc

pub to_is : (h : PlaceHop) (y : ℕ) → as_hop h ≡ hop.To y → h ≡ place_hop.To y
to_is place_hop.NoRoute y e = cc
to_is place_hop.Here y e = cc
to_is (place_hop.To z) y e = let k : z ≡ y = cc in ap place_hop.To k

-- who delivers has a place
pub here_below : (hops : List PlaceHop) (x : ℕ) → next_of hops x ≡ hop.Here → x < length hops
here_below hops x e = ⊎_elim (λ l. l) (λ (g : length hops ≤ x). let k : hop.NoRoute ≡ hop.Here = sym (ap as_hop (get_or_past hops x place_hop.NoRoute g)) ∙ e in absurd (no k)) (cases_lt x (length hops))
  where
    no : hop.NoRoute ≡ hop.Here → ⊥
    no k = cc

module _ (next : ℕ → Hop) (ases : List ℕ) (hops : List PlaceHop) (h : AreHops next ases hops) where
  next_named : (x : ℕ) → x < length hops → (p : PlaceHop) → hop_at hops x ≡ p → next (name_at ases x) ≡ named ases p
  next_named x l p e = sym (h.follows x (omega (arith, l, h.len))) ∙ ap (named ases) e

  reached_named : (n x : ℕ) → x < length hops → reached next n (name_at ases x) ≡ option_map (name_at ases) (reached (next_of hops) n x)
  reached_named zero x l = refl
  reached_named (suc n) x l = by (hop_at hops x) refl (λ y m. reached_named n y m)
    where
      by : (p : PlaceHop) → hop_at hops x ≡ p → ((y : ℕ) → y < length hops → reached next n (name_at ases y) ≡ option_map (name_at ases) (reached (next_of hops) n y)) →
          onward (next (name_at ases x)) (λ b. reached next n b) ≡ option_map (name_at ases) (onward (as_hop (hop_at hops x)) (λ b. reached (next_of hops) n b))
      by place_hop.NoRoute e go = ap (λ t. onward t (λ b. reached next n b)) (next_named x l place_hop.NoRoute e) ∙ sym (ap (λ (t : PlaceHop). option_map (name_at ases) (onward (as_hop t) (λ b. reached (next_of hops) n b))) e)
      by place_hop.Here e go = ap (λ t. onward t (λ b. reached next n b)) (next_named x l place_hop.Here e) ∙ sym (ap (λ (t : PlaceHop). option_map (name_at ases) (onward (as_hop t) (λ b. reached (next_of hops) n b))) e)
      by (place_hop.To y) e go = ap (λ t. onward t (λ b. reached next n b)) (next_named x l (place_hop.To y) e) ∙ go y (h.within x y e) ∙ sym (ap (λ (t : PlaceHop). option_map (name_at ases) (onward (as_hop t) (λ b. reached (next_of hops) n b))) e)

  some_map : (o : Option ℕ) → is_some (option_map (name_at ases) o) ≡ is_some o
  some_map None = refl
  some_map (Some x) = refl

  below : (n x c : ℕ) → x < length hops → reached (next_of hops) n x ≡ Some c → c < length hops
  below n x c l r = ends_in (next_of hops) (λ y. y < length hops) (λ y z m e. h.within y z (to_is (hop_at hops y) z e)) n x c l r

  pub ends_named : (x : ℕ) (e : PlaceEnd) → x < length hops → Ends (next_of hops) x (as_end e) → Ends next (name_at ases x) (named_end ases e)
  ends_named x (place_end.At c) l q =
      (q.0, reached_named q.0 x l ∙ ap (option_map (name_at ases)) q.1, next_named c (below q.0 x c l q.1) place_hop.Here (here_is (hop_at hops c) q.2))
  ends_named x place_end.NoRoute l q =
      (q.0, name_at ases q.1, reached_named q.0 x l ∙ ap (option_map (name_at ases)) q.2, next_named q.1 (below q.0 x q.1 l q.2) place_hop.NoRoute (no_route_is (hop_at hops q.1) q.3))
  ends_named x place_end.Loop l q = λ n. ap is_some (reached_named n x l) ∙ some_map (reached (next_of hops) n x) ∙ q n

-- ---- known ends are those of the traces

pub key : End → ℕ
key (the_end.At a) = a + 2
key the_end.NoRoute = 0
key the_end.Loop = 1

pub key_same : (d e : End) → key d ≡ key e → d ≡ e
unfolding key
key_same (the_end.At a) (the_end.At b) h = let q : a ≡ b = omega (arith, h) in ap the_end.At q
key_same (the_end.At a) the_end.NoRoute h = absurd (omega (arith, h))
key_same (the_end.At a) the_end.Loop h = absurd (omega (arith, h))
key_same the_end.NoRoute (the_end.At b) h = absurd (omega (arith, h))
key_same the_end.NoRoute the_end.NoRoute h = refl
key_same the_end.NoRoute the_end.Loop h = absurd (omega (arith, h))
key_same the_end.Loop (the_end.At b) h = absurd (omega (arith, h))
key_same the_end.Loop the_end.NoRoute h = absurd (omega (arith, h))
key_same the_end.Loop the_end.Loop h = refl

pub end_told_is : (next : ℕ → Hop) (ases : List ℕ) (hops : List PlaceHop) (marks : List Mark) (x : ℕ) → ((a b : ℕ) → next a ≡ hop.To b → IsIn b ases) → AreEnds (next_of hops) (length hops) marks →
    ((e : PlaceEnd) → Ends (next_of hops) x (as_end e) → Ends next (name_at ases x) (named_end ases e)) → x < length hops → (xs : List ℕ) × IsTrace next (name_at ases x) xs (told ases (mark_of marks x))
end_told_is next ases hops marks x closed ends carried l =
    let a : ℕ = name_at ases x in
    let t : HasTrace next a = trace_exists next ases closed a in
    let k : key t.1 ≡ key (told ases (mark_of marks x)) = ∥∥₁_elim (ends.ends x l) (ℕ_set (key t.1) (key (told ases (mark_of marks x))))
    (λ r. ap key (one_end next a (named_end ases r.0) t.1 (carried r.0 r.2) (trace_ends next a t.0 t.1 t.2) ∙ sym (ap (told ases) r.1))) in
    (t.0, subst (λ d. IsTrace next a t.0 d) (key_same t.1 (told ases (mark_of marks x)) k) t.2)

pub end_below : (hops : List PlaceHop) (marks : List Mark) → AreEnds (next_of hops) (length hops) marks → (x y : ℕ) → mark_of marks x ≡ Known (place_end.At y) → y < length hops
end_below hops marks ends x y m = ⊎_elim (λ l. l) (λ (g : length hops ≤ y). absurd (at g (cases_lt x (length hops)))) (cases_lt y (length hops))
  where
    never : Unknown ≡ Known (place_end.At y) → ⊥
    never e = cc

    same : (d e : PlaceEnd) → Known d ≡ Known e → d ≡ e
    same d e q = cc

    by : length hops ≤ y → (d : PlaceEnd) → d ≡ place_end.At y → Ends (next_of hops) x (as_end d) → ⊥
    by g d e q = let r : Ends (next_of hops) x (the_end.At y) = subst (λ (t : PlaceEnd). Ends (next_of hops) x (as_end t)) e q in absurd (omega (arith, g, here_below hops y r.2))

    at : length hops ≤ y → (x < length hops) ⊎ (length hops ≤ x) → ⊥
    at g (inl l) = ∥∥₁_elim (ends.ends x l) ⊥_prop (λ r. by g r.0 (same r.0 (place_end.At y) (sym r.1 ∙ m)) r.2)
    at g (inr q) = never (sym (get_or_past marks x Unknown (omega (arith, q, ends.len))) ∙ m)

-- ---- the next hops of the ASes of the graph

module _ (g : Topology) (next : ℕ → Hop) (inside : (a b : ℕ) → next a ≡ hop.To b → has g b ≡ true) where
  pub fresh_is : (a : ℕ) → has g a ≡ true → fresh g next a ≡ next a
  fresh_is a e = ap (λ v. cond v (next a) hop.NoRoute) e

  -- an AS of the graph ends as it does where other ASes have no route
  pub fresh_ends : (a : ℕ) (e : End) → has g a ≡ true → Ends (fresh g next) a e → Ends next a e
  fresh_ends a e here q = ends_same (fresh g next) next (λ y. has g y ≡ true) (λ y k. sym (fresh_is y k)) (λ y z k f. inside y z (sym (fresh_is y k) ∙ f)) a here e q

-- ---- a place whose end is known

pub kept_known : (ases : List ℕ) (hops : List PlaceHop) (marks : List Mark) (x : ℕ) → AreEnds (next_of hops) (length hops) marks → x < length hops → kept_end ases (mark_of marks x) ≡ Some (told ases (mark_of marks x))
kept_known ases hops marks x ends l = by (mark_of marks x) (λ q. ∥∥₁_elim (ends.ends x l) ⊥_prop (λ r. unknown r.0 (sym q ∙ r.1))) (λ q. ∥∥₁_elim (ends.ends x l) ⊥_prop (λ r. walked r.0 (sym q ∙ r.1)))
  where
    unknown : (e : PlaceEnd) → Unknown ≡ Known e → ⊥
    unknown e q = cc

    walked : (e : PlaceEnd) → Walked ≡ Known e → ⊥
    walked e q = cc

    by : (m : Mark) → (m ≡ Unknown → ⊥) → (m ≡ Walked → ⊥) → kept_end ases m ≡ Some (told ases m)
    by Unknown u w = absurd (u refl)
    by Walked u w = absurd (w refl)
    by (Known e) u w = refl
