-- Each AS has exactly one trace.
use Rattle.std.proofs.Common.{◌≡◌, ◌⊎◌, inl, inr, ⊎_elim, ℕ, zero, suc, ◌+◌, ◌-◌, ◌<◌, ◌≤◌, Bool, true, false, ◌||◌, eqb, Some, List, [], ◌∷◌, ◌++◌, length, get_or, refl, sym, ◌∙◌, ap, subst, arith, true≢false}
use Rattle.std.specs.Prelude.{slice_get, slice_index, nat_eq}
use Rattle.std.specs.List.{list_any}
use Rattle.std.proofs.lemmas.Bool.{or_cases, or_right, eqb-true, eq-eqb, cases_lt}
use Rattle.std.proofs.lemmas.List.{length_push, get_or_push, get_or_append_left, ext_get_or}
use Rattle.std.proofs.lemmas.Map.Keys.{apart_from_distinct, IsDistinct-push, IsDistinct-from_apart}
use Rattle.std.proofs.lemmas.Cmp.{nat_eq_equiv}
use Rattle.std.proofs.lemmas.List.Folds.{list_any-append}
use Rattle.std.proofs.lemmas.Map.Made.{length-le_from_is_member}
use Rattle.data_trace.specs.declared.kinds.Hop.{Hop}
use Rattle.data_trace.specs.declared.kinds.Hop.TheVariants.{Here, To, NoRoute}
use Rattle.data_trace.specs.declared.kinds.End.{End}
use Rattle.data_trace.specs.declared.kinds.End.TheVariants as the_end
use Rattle.net_names.specs.Ways as ways
use Rattle.data_trace.specs.Traces.{IsIn, EndsBy, IsTrace}
use Rattle.data_trace.specs.Steps.{onward, reached, Ends}
use Rattle.data_trace.proofs.Ends.{ends_loops, one_end}

-- a way of a packet
abbrev pub IsWay : (ℕ → Hop) → ℕ → List ℕ → Type 0
IsWay next = ways.IsWay (λ x y. next x ≡ To y)

-- the last AS of a way
abbrev pub last_of : List ℕ → ℕ
last_of xs = slice_index xs (length xs - 1)

abbrev pub HasTrace : (ℕ → Hop) → ℕ → Type 0
HasTrace next a = (xs : List ℕ) × (end : End) × IsTrace next a xs end

-- ---- members

pub in_at : (b : ℕ) (xs : List ℕ) → IsIn b xs → (k : ℕ) × (k < length xs) × (get_or xs k 0 ≡ b)
in_at b [] h = absurd (true≢false (sym h))
in_at b (x ∷ xs) h = by (or_cases (nat_eq b x) (list_any (nat_eq b) xs) h) (λ q. in_at b xs q)
  where
    by : ((nat_eq b x) ≡ true) ⊎ IsIn b xs → (IsIn b xs → (k : ℕ) × (k < length xs) × (get_or xs k 0 ≡ b)) → (k : ℕ) × (k < suc (length xs)) × (get_or (x ∷ xs) k 0 ≡ b)
    by (inl e) f = (0, omega arith, sym (eqb-true b x e))
    by (inr q) f = let r : (k : ℕ) × (k < length xs) × (get_or xs k 0 ≡ b) = f q in (suc r.0, omega (arith, r.1), r.2)

pub at_in : (xs : List ℕ) (k : ℕ) → k < length xs → IsIn (get_or xs k 0) xs
at_in [] k l = absurd (omega arith)
at_in (x ∷ xs) zero l = ap (λ t. t || list_any (nat_eq x) xs) (eq-eqb x x refl)
at_in (x ∷ xs) (suc k) l = or_right (nat_eq (get_or xs k 0) x) _ (at_in xs k (omega arith))

pub starts_at : (a : ℕ) (xs : List ℕ) → slice_get xs 0 ≡ Some a → (0 < length xs) × (get_or xs 0 0 ≡ a)
starts_at a [] h = cc
starts_at a (x ∷ xs) h = (omega arith, cc)

one_in : (q a : ℕ) → IsIn q (a ∷ []) → q ≡ a
one_in q a h = ⊎_elim (λ e. eqb-true q a e) (λ (f : false ≡ true). absurd (true≢false (sym f))) (or_cases (nat_eq q a) false h)

pub below_push : (q b : ℕ) (xs : List ℕ) (limit : ℕ) → ((q : ℕ) → IsIn q xs → q < limit) → b < limit → IsIn q (xs ++ b ∷ []) → q < limit
below_push q b xs limit below l h =
    ⊎_elim (λ e. below q e) (λ e. subst (λ t. t < limit) (sym (one_in q b e)) l)
    (or_cases (list_any (nat_eq q) xs) (list_any (nat_eq q) (b ∷ [])) (sym (list_any-append (nat_eq q) xs (b ∷ [])) ∙ h))

pub all_push : (ases : List ℕ) (q b : ℕ) (xs : List ℕ) → ((q : ℕ) → IsIn q xs → IsIn q ases) → IsIn b ases → IsIn q (xs ++ b ∷ []) → IsIn q ases
all_push ases q b xs all l h =
    ⊎_elim (λ e. all q e) (λ e. subst (λ t. IsIn t ases) (sym (one_in q b e)) l)
    (or_cases (list_any (nat_eq q) xs) (list_any (nat_eq q) (b ∷ [])) (sym (list_any-append (nat_eq q) xs (b ∷ [])) ∙ h))

-- ---- ways

pub reached_more : (next : ℕ → Hop) (n a c d : ℕ) → reached next n a ≡ Some c → next c ≡ To d → reached next (suc n) a ≡ Some d
reached_more next zero a c d r e = let k : a ≡ c = cc in ap (λ t. onward t (λ b. reached next 0 b)) (ap next k ∙ e)
reached_more next (suc n) a c d r e = by (next a) refl r (λ b q. reached_more next n b c d q e)
  where
    by : (t : Hop) → next a ≡ t → onward t (λ b. reached next n b) ≡ Some c → ((b : ℕ) → reached next n b ≡ Some c → reached next (suc n) b ≡ Some d) → onward (next a) (λ b. reached next (suc n) b) ≡ Some d
    by Here q r f = cc
    by NoRoute q r f = cc
    by (To b) q r f = ap (λ t. onward t (λ z. reached next (suc n) z)) q ∙ f b r

pub way_reaches : (next : ℕ → Hop) (a : ℕ) (xs : List ℕ) → IsWay next a xs → (i : ℕ) → i < length xs → reached next i a ≡ Some (get_or xs i 0)
way_reaches next a xs w zero l = ap Some (sym (starts_at a xs w.starts).1)
way_reaches next a xs w (suc i) l =
    let e : i + 1 ≡ suc i = omega arith in
    let s : next (get_or xs i 0) ≡ To (get_or xs (suc i) 0) = subst (λ t. next (get_or xs i 0) ≡ To (get_or xs t 0)) e (w.steps i (omega arith)) in
    reached_more next i a _ _ (way_reaches next a xs w i (omega arith)) s

starts_push : (a b : ℕ) (xs : List ℕ) → slice_get xs 0 ≡ Some a → slice_get (xs ++ b ∷ []) 0 ≡ Some a
starts_push a b [] h = cc
starts_push a b (x ∷ xs) h = h

-- a way goes on where its last AS sends to an AS that is not on it
pub way_push : (next : ℕ → Hop) (a b : ℕ) (xs : List ℕ) → IsWay next a xs → next (last_of xs) ≡ To b → list_any (nat_eq b) xs ≡ false → IsWay next a (xs ++ b ∷ [])
way_push next a b xs w s f = record {
  starts = starts_push a b xs w.starts;
  steps = λ i l. at i (omega (arith, l, length_push xs b)) (cases_lt (i + 1) (length xs));
  distinct = IsDistinct-push nat_eq_equiv xs b w.distinct f;
} where
  at : (i : ℕ) → i < length xs → (i + 1 < length xs) ⊎ (length xs ≤ i + 1) → next (get_or (xs ++ b ∷ []) i 0) ≡ To (get_or (xs ++ b ∷ []) (i + 1) 0)
  at i l (inl m) = ap next (get_or_append_left xs (b ∷ []) 0 i l) ∙ w.steps i m ∙ ap To (sym (get_or_append_left xs (b ∷ []) 0 (i + 1) m))
  at i l (inr m) =
      let e : length xs ≡ i + 1 = omega arith in
      let k : length xs - 1 ≡ i = omega arith in
      let last : next (get_or xs i 0) ≡ To b = subst (λ t. next (get_or xs t 0) ≡ To b) k s in
      ap next (get_or_append_left xs (b ∷ []) 0 i l) ∙ last ∙ ap To (sym (get_or_push xs b 0 (i + 1) e))

pub last_push : (xs : List ℕ) (b : ℕ) → last_of (xs ++ b ∷ []) ≡ b
last_push xs b = get_or_push xs b 0 (length (xs ++ b ∷ []) - 1) (omega (arith, length_push xs b))

-- a way of one AS
pub way_one : (next : ℕ → Hop) (a : ℕ) → IsWay next a (a ∷ [])
way_one next a = record {
  starts = refl;
  steps = λ i l. absurd (omega arith);
  distinct = IsDistinct-from_apart nat_eq (a ∷ []) (λ i j d l m. absurd (omega arith));
}

-- ---- a trace is the longest way

same_way : (next : ℕ → Hop) (a : ℕ) (xs ys : List ℕ) → IsWay next a xs → IsWay next a ys → (i : ℕ) → i < length xs → i < length ys → get_or xs i 0 ≡ get_or ys i 0
same_way next a xs ys v w i l m = let e : Some (get_or xs i 0) ≡ Some (get_or ys i 0) = sym (way_reaches next a xs v i l) ∙ way_reaches next a ys w i m in cc

pub no_longer : (next : ℕ → Hop) (a : ℕ) (xs ys : List ℕ) (end : End) → IsTrace next a xs end → IsWay next a ys → length ys ≤ length xs
no_longer next a xs ys end t w = by (cases_lt (length xs) (length ys))
  where
    by : (length xs < length ys) ⊎ (length ys ≤ length xs) → length ys ≤ length xs
    by (inr g) = g
    by (inl l) =
        let some : 0 < length xs = (starts_at a xs t.way.starts).0 in
        let m : ℕ = length xs - 1 in
        let inside : m < length xs = omega arith in
        let onwards : next (get_or ys m 0) ≡ To (get_or ys (m + 1) 0) = w.steps m (omega arith) in
        let e : next (last_of xs) ≡ To (get_or ys (m + 1) 0) = ap next (same_way next a xs ys t.way w m inside (omega arith)) ∙ onwards in
        let q : EndsBy (To (get_or ys (m + 1) 0)) (last_of xs) xs end = subst (λ h. EndsBy h (last_of xs) xs end) e t.ends in
        let r : (k : ℕ) × (k < length xs) × (get_or xs k 0 ≡ get_or ys (m + 1) 0) = in_at _ xs q.0 in
        let s : get_or ys r.0 0 ≡ get_or ys (m + 1) 0 = sym (same_way next a xs ys t.way w r.0 r.1 (omega (arith, r.1))) ∙ r.2 in
        let f : eqb (get_or ys r.0 0) (get_or ys (m + 1) 0) ≡ false = apart_from_distinct eqb ys r.0 (m + 1) 0 w.distinct (omega (arith, r.1)) (omega arith) in
        absurd (true≢false (sym (eq-eqb _ _ s) ∙ f))

pub one_trace : (next : ℕ → Hop) (a : ℕ) (xs ys : List ℕ) (end other : End) → IsTrace next a xs end → IsTrace next a ys other → ys ≡ xs
one_trace next a xs ys end other t u =
    let e : length ys ≡ length xs = omega (arith, no_longer next a xs ys end t u.way, no_longer next a ys xs other u t.way) in
    ext_get_or 0 ys xs e (λ i l. same_way next a ys xs u.way t.way i l (omega arith))

pub trace_ends : (next : ℕ → Hop) (a : ℕ) (xs : List ℕ) (end : End) → IsTrace next a xs end → Ends next a end
trace_ends next a xs end t = by (next (last_of xs)) refl t.ends
  where
    some : 0 < length xs
    some = (starts_at a xs t.way.starts).0

    there : reached next (length xs - 1) a ≡ Some (last_of xs)
    there = way_reaches next a xs t.way (length xs - 1) (omega (arith, some))

    by : (h : Hop) → next (last_of xs) ≡ h → EndsBy h (last_of xs) xs end → Ends next a end
    by Here e q = subst (λ t. Ends next a t) (sym q) (length xs - 1, there, e)
    by NoRoute e q = subst (λ t. Ends next a t) (sym q) (length xs - 1, last_of xs, there, e)
    by (To b) e q = subst (λ t. Ends next a t) (sym q.1) (ends_loops next (λ x. IsIn x xs) onwards a (subst (λ t. IsIn t xs) (starts_at a xs t.way.starts).1 (at_in xs 0 some)))
      where
        onwards : (x : ℕ) → IsIn x xs → (y : ℕ) × (next x ≡ To y) × IsIn y xs
        onwards x h = let r : (k : ℕ) × (k < length xs) × (get_or xs k 0 ≡ x) = in_at x xs h in
            ⊎_elim (λ (l : r.0 + 1 < length xs). (get_or xs (r.0 + 1) 0, sym (ap next r.2) ∙ t.way.steps r.0 l, at_in xs (r.0 + 1) l))
            (λ (g : length xs ≤ r.0 + 1). (b, sym (ap next r.2) ∙ ap (λ k. next (get_or xs k 0)) (let k : r.0 ≡ length xs - 1 = omega (arith, r.1, g) in k) ∙ e, q.0))
            (cases_lt (r.0 + 1) (length xs))

-- an end by steps is that of the trace
pub end_of_trace : (next : ℕ → Hop) (a : ℕ) (xs : List ℕ) (end other : End) → IsTrace next a xs end → Ends next a other → IsTrace next a xs other
end_of_trace next a xs end other t h = subst (λ e. IsTrace next a xs e) (sym (one_end next a end other (trace_ends next a xs end t) h)) t

grow : (next : ℕ → Hop) (ases : List ℕ) → ((a b : ℕ) → next a ≡ To b → IsIn b ases) → (a fuel : ℕ) (xs : List ℕ) → IsWay next a xs → ((q : ℕ) → IsIn q xs → IsIn q ases) → length ases < length xs + fuel → HasTrace next a
grow next ases closed a zero xs w all f = absurd (omega (arith, f, length-le_from_is_member nat_eq_equiv xs ases w.distinct all))
grow next ases closed a (suc fuel) xs w all f = by (next (last_of xs)) refl
    (λ b v all'. grow next ases closed a fuel (xs ++ b ∷ []) v all' (omega (arith, f, length_push xs b)))
  where
    by : (h : Hop) → next (last_of xs) ≡ h → ((b : ℕ) → IsWay next a (xs ++ b ∷ []) → ((q : ℕ) → IsIn q (xs ++ b ∷ []) → IsIn q ases) → HasTrace next a) → HasTrace next a
    by Here e go = (xs, the_end.At (last_of xs), record { way = w; ends = subst (λ h. EndsBy h (last_of xs) xs (the_end.At (last_of xs))) (sym e) refl })
    by NoRoute e go = (xs, the_end.NoRoute, record { way = w; ends = subst (λ h. EndsBy h (last_of xs) xs the_end.NoRoute) (sym e) refl })
    by (To b) e go = at (list_any (nat_eq b) xs) refl
      where
        at : (v : Bool) → list_any (nat_eq b) xs ≡ v → HasTrace next a
        at true i = (xs, the_end.Loop, record { way = w; ends = subst (λ h. EndsBy h (last_of xs) xs the_end.Loop) (sym e) (i, refl) })
        at false i = go b (way_push next a b xs w e i) (λ q h. all_push ases q b xs all (closed (last_of xs) b e) h)

-- where all next hops are among finitely many ASes, each AS has a trace
pub trace_exists : (next : ℕ → Hop) (ases : List ℕ) → ((a b : ℕ) → next a ≡ To b → IsIn b ases) → (a : ℕ) → HasTrace next a
trace_exists next ases closed a =
    grow next (a ∷ ases) (λ x b e. or_right (nat_eq b a) (list_any (nat_eq b) ases) (closed x b e)) a (suc (suc (length ases))) (a ∷ []) (way_one next a)
    (λ q h. ap (λ t. t || list_any (nat_eq q) ases) (eq-eqb q a (one_in q a h))) (omega arith)
