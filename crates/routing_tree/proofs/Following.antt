-- Ends that come by a tree.
use Rattle.std.proofs.Common.{◌≡◌, ◌≢◌, ◌⊎◌, inl, inr, ℕ, zero, suc, ◌+◌, ◌-◌, ◌<◌, ◌==◌, if◌then◌else◌, eqb, Bool, true, false, List, [], ◌∷◌, length, set, get_or, refl, sym, ◌∙◌, ap, subst, arith, true≢false, get_or-set_same, get_or-set_other, length-set}
use Rattle.std.specs.Prelude.{slice_get, slice_index, nat_eq, Some}
use Rattle.std.specs.List.{list_any, AllByRecursion}
use Rattle.std.proofs.lemmas.Bool.{cases_Bool, cases_eq, cases_lt, eq-eqb}
use Rattle.std.proofs.lemmas.List.{get_or_past}
use Rattle.std.proofs.lemmas.Map.Keys.{apart_from_distinct, IsDistinct-cons}
use Rattle.data_trace.specs.declared.kinds.Hop.{Hop}
use Rattle.data_trace.specs.declared.kinds.Hop.TheVariants.{Here, To, NoRoute}
use Rattle.data_trace.specs.declared.kinds.End.TheVariants as the_end
use Rattle.data_trace.specs.Traces.{EndsBy, IsIn, IsTrace}
use Rattle.data_trace.proofs.Traces.{in_at, starts_at, way_one, last_of}
use Rattle.routing_tree.specs.declared.tree.RoutingTree.{RoutingTree}
use Rattle.routing_tree.specs.Ends.{AreEnds, FollowOn, SendBy, end_by, hop_by}
use Rattle.routing_tree.specs.Trees.{HasPlaces, IsLowAt, ParentsComeFirst}

-- ---- traces

-- an AS that delivers its packets has the trace of itself alone
pub trace_here : (next : ℕ → Hop) (a : ℕ) → next a ≡ Here → IsTrace next a (a ∷ []) (the_end.At a)
trace_here next a here = record { way = way_one next a; ends = subst (λ h. EndsBy h a (a ∷ []) (the_end.At a)) (sym here) refl }

differ : (a : ℕ) (xs : List ℕ) → list_any (nat_eq a) xs ≡ false → AllByRecursion (λ y. nat_eq a y ≡ false) xs
differ a [] absent = tt
differ a (x ∷ xs) absent = elim (cases_Bool (nat_eq a x)) [
  | inl same ↦ (let bad : true ≡ false = rw same at absent in cc)
  | inr other ↦ (other, differ a xs (rw other at absent))
]

-- a packet that is delivered does not come to an AS that sends to the first of its way
not_back : (next : ℕ → Hop) (a b c : ℕ) (xs : List ℕ) → next a ≡ To b → IsTrace next b xs (the_end.At c) → IsIn a xs → true ≡ false
not_back next a b c xs sends t there =
    let (k, inside, is) = in_at a xs there in
    let first : get_or xs 0 0 ≡ b = (starts_at b xs t.way.starts).1 in
    elim (cases_lt (k + 1) (length xs)) [
      | inl on ↦
          let hop : To b ≡ To (get_or xs (k + 1) 0) = sym sends ∙ ap next (sym is) ∙ t.way.steps k on in
          let same : b ≡ get_or xs (k + 1) 0 = cc in
          let apart : eqb (get_or xs 0 0) (get_or xs (k + 1) 0) ≡ false = apart_from_distinct eqb xs 0 (k + 1) 0 t.way.distinct (omega arith) on in
          sym (eq-eqb (get_or xs 0 0) (get_or xs (k + 1) 0) (first ∙ same)) ∙ apart
      | inr past ↦
          let last : k ≡ length xs - 1 = omega (arith, inside, past) in
          let hop : next (last_of xs) ≡ To b = ap (λ n. next (get_or xs n 0)) (sym last) ∙ ap next is ∙ sends in
          let ends : EndsBy (To b) (last_of xs) xs (the_end.At c) = subst (λ h. EndsBy h (last_of xs) xs (the_end.At c)) hop t.ends in
          let loop : the_end.At c ≡ the_end.Loop = ends.1 in
          cc
    ]

delivered : (h : Hop) (last c : ℕ) (xs ys : List ℕ) → EndsBy h last xs (the_end.At c) → EndsBy h last ys (the_end.At c)
delivered Here last c xs ys is = is
delivered NoRoute last c xs ys is = is
delivered (To b) last c xs ys is = let loop : the_end.At c ≡ the_end.Loop = is.1 in cc

-- where an AS sends its packets to one whose packets are delivered, its own end there too
pub trace_on : (next : ℕ → Hop) (a b c : ℕ) (xs : List ℕ) → next a ≡ To b → IsTrace next b xs (the_end.At c) → IsTrace next a (a ∷ xs) (the_end.At c)
trace_on next a b c xs sends t = record {
  way = record {
    starts = refl;
    steps = steps;
    distinct = IsDistinct-cons nat_eq a xs (differ a xs absent) t.way.distinct;
  };
  ends = subst (λ n. EndsBy (next n) n (a ∷ xs) (the_end.At c)) (sym last) (delivered (next (last_of xs)) (last_of xs) c xs (a ∷ xs) t.ends);
} where
  some : 0 < length xs
  some = (starts_at b xs t.way.starts).0

  absent : list_any (nat_eq a) xs ≡ false
  absent = elim (cases_Bool (list_any (nat_eq a) xs)) [
    | inl there ↦ absurd (true≢false (not_back next a b c xs sends t there))
    | inr lacks ↦ lacks
  ]

  steps : (i : ℕ) → i + 1 < length (a ∷ xs) → next (slice_index (a ∷ xs) i) ≡ To (slice_index (a ∷ xs) (i + 1))
  steps zero less = sends ∙ ap To (sym (starts_at b xs t.way.starts).1)
  steps (suc i) less =
      let e : suc (i + 1) ≡ suc i + 1 = omega arith in
      t.way.steps i (omega (arith, less)) ∙ ap (λ n. To (get_or (a ∷ xs) n 0)) e

  last : last_of (a ∷ xs) ≡ last_of xs
  last = let e : length (a ∷ xs) - 1 ≡ suc (length xs - 1) = omega (arith, some) in ap (λ n. get_or (a ∷ xs) n 0) e

-- ---- one AS gets its end

module _ (t : RoutingTree) (ends : List ℕ) (p : ℕ) (inside : p < length ends) (parent : slice_index t.parents.items p < length ends) (unknown : slice_index ends p ≡ 0) (holds : 0 < slice_index t.lengths.items p) where
  abbrev q : ℕ
  q = slice_index t.parents.items p

  abbrev after : List ℕ
  after = set ends p (end_by ends t p)

  pub this : slice_index after p ≡ end_by ends t p
  this = get_or-set_same ends p (end_by ends t p) 0 inside

  pub other : (k : ℕ) → k ≢ p → slice_index after k ≡ slice_index ends k
  other k ne = get_or-set_other ends p k (end_by ends t p) 0 ne

  module _ (next : ℕ → Hop) (ases : List ℕ) (len : length ases ≡ length ends) (are : AreEnds next ases ends) (send : SendBy next ases t ends) where
    abbrev EndsAt : ℕ → ℕ → Type 0
    EndsAt k v = (v ≡ 0) ⊎ ((v - 1 < length ases) × (walk : List ℕ) × IsTrace next (slice_index ases k) walk (the_end.At (slice_index ases (v - 1))))

    hop : next (slice_index ases p) ≡ hop_by ases t p
    hop = send p (omega (arith, inside, len)) unknown holds

    own : next (slice_index ases p) ≡ Here → EndsAt p (p + 1)
    own here =
        let e : p ≡ p + 1 - 1 = omega arith in
        inr (omega (arith, inside, len), slice_index ases p ∷ [], subst (λ n. IsTrace next (slice_index ases p) (slice_index ases p ∷ []) (the_end.At (slice_index ases n))) e (trace_here next (slice_index ases p) here))

    of_parent : next (slice_index ases p) ≡ To (slice_index ases q) → EndsAt q (slice_index ends q) → EndsAt p (slice_index ends q)
    of_parent sends (inl none) = inl none
    of_parent sends (inr (below, walk, trace)) = inr (below, slice_index ases p ∷ walk, trace_on next (slice_index ases p) (slice_index ases q) (slice_index ases (slice_index ends q - 1)) walk sends trace)

    new_end : (b : Bool) → next (slice_index ases p) ≡ (if b then Here else To (slice_index ases q)) → EndsAt p (if b then p + 1 else slice_index ends q)
    new_end true is = own is
    new_end false is = of_parent is (are q (omega (arith, parent, len)))

    pub ends_more : AreEnds next ases after
    ends_more k less = elim (cases_eq k p) [
      | inl same ↦ subst (λ n. EndsAt n (slice_index after n)) (sym same) (subst (EndsAt p) (sym this) (new_end (q == p) hop))
      | inr ne ↦ subst (EndsAt k) (sym (other k ne)) (are k less)
    ]

  -- whoever holds something and has no end yet gets one
  pub follow_one : FollowOn t ends after
  follow_one = record {
    count = length-set ends p (end_by ends t p);
    stay = λ k some. other k (λ same. (let zero : slice_index ends k ≡ 0 = ap (slice_index ends) same ∙ unknown in omega (arith, some, zero)));
    none = λ k missing empty. other k (λ same. (let zero : slice_index t.lengths.items p ≡ 0 = ap (slice_index t.lengths.items) (sym same) ∙ empty in omega (arith, holds, zero))) ∙ missing;
    ends = ends_more;
  }

  pub some_end : (q ≡ p) ⊎ (0 < slice_index ends q) → 0 < end_by ends t p
  some_end is = by (q == p) refl is
    where
      by : (b : Bool) → (q == p) ≡ b → (q ≡ p) ⊎ (0 < slice_index ends q) → 0 < (if b then p + 1 else slice_index ends q)
      by true e is = omega arith
      by false e (inl same) = absurd (true≢false (sym (eq-eqb q p same) ∙ e))
      by false e (inr some) = some

-- ---- ends come one after the other

pub follow_none : (t : RoutingTree) (ends : List ℕ) → FollowOn t ends ends
follow_none t ends = record { count = refl; stay = λ k some. refl; none = λ k missing empty. missing; ends = λ next ases len are send. are }

-- an end that is still unknown was unknown before
pub was_none : (t : RoutingTree) (old new : List ℕ) → FollowOn t old new → (k : ℕ) → slice_index new k ≡ 0 → slice_index old k ≡ 0
was_none t old new on k missing = elim (cases_eq (slice_index old k) 0) [
  | inl e ↦ e
  | inr ne ↦ (let some : 0 < slice_index old k = omega (arith, ne) in sym (on.stay k some) ∙ missing)
]

pub follow_more : (t : RoutingTree) (a b c : List ℕ) → FollowOn t a b → FollowOn t b c → FollowOn t a c
follow_more t a b c first second = record {
  count = second.count ∙ first.count;
  stay = λ k some. second.stay k (subst (λ n. 0 < n) (sym (first.stay k some)) some) ∙ first.stay k some;
  none = λ k missing empty. second.none k (first.none k missing empty) empty;
  ends = λ next ases len are send. second.ends next ases (len ∙ sym first.count) (first.ends next ases len are send) (λ k less missing holds. send k less (was_none t a b first k missing) holds);
}

pub still_some : (t : RoutingTree) (old new : List ℕ) → FollowOn t old new → (k : ℕ) → 0 < slice_index old k → 0 < slice_index new k
still_some t old new on k some = subst (λ n. 0 < n) (sym (on.stay k some)) some

-- ---- parents

some_inside : (xs : List ℕ) (j : ℕ) → 0 < slice_index xs j → j < length xs
some_inside xs j some = elim (cases_lt j (length xs)) [
  | inl less ↦ less
  | inr past ↦ (let zero = get_or_past xs j 0 past in omega (arith, some, zero))
]

module _ (t : RoutingTree) (n : ℕ) (places : HasPlaces n t) (order : ParentsComeFirst t n) (k : ℕ) (less : k < n) where
  abbrev parent_of : ℕ
  parent_of = slice_index t.parents.items k

  pub low_parent : IsLowAt t k → parent_of < n
  low_parent low = elim (order.low k less low) [ inl same ↦ omega (arith, same, less) | inr below ↦ omega (arith, below.0, less) ]

  high_some : 0 < slice_index t.lengths.items k → slice_get t.lows.items k ≢ Some true → 0 < slice_index t.lengths.items parent_of
  high_some holds high = elim (order.high k less holds high) [ inl low ↦ low.some | inr above ↦ above.1 ]

  pub high_parent : 0 < slice_index t.lengths.items k → slice_get t.lows.items k ≢ Some true → parent_of < n
  high_parent holds high = let inside = some_inside t.lengths.items parent_of (high_some holds high) in omega (arith, inside, places.lengths)

  -- where all lower places that hold an own or a customer's route have ends, a parent has one
  pub low_end : (ends : List ℕ) → ((j : ℕ) → j < k → IsLowAt t j → 0 < slice_index ends j) → IsLowAt t k → (parent_of ≡ k) ⊎ (0 < slice_index ends parent_of)
  low_end ends known low = elim (order.low k less low) [ inl same ↦ inl same | inr below ↦ inr (known parent_of below.0 below.1) ]

  -- and so have all places with such a route, and all higher ones
  pub high_end : (ends : List ℕ) → ((j : ℕ) → j < n → IsLowAt t j → 0 < slice_index ends j) → ((j : ℕ) → k < j → j < n → 0 < slice_index t.lengths.items j → 0 < slice_index ends j)
      → 0 < slice_index t.lengths.items k → slice_get t.lows.items k ≢ Some true → (parent_of ≡ k) ⊎ (0 < slice_index ends parent_of)
  high_end ends lows known holds high = elim (order.high k less holds high) [
    | inl low ↦ inr (lows parent_of (high_parent holds high) low)
    | inr above ↦ inr (known parent_of above.0 (high_parent holds high) above.1)
  ]
