-- One place more, of an AS that is gone.
use Rattle.std.proofs.Common.{◌≡◌, ◌⊎◌, inl, inr, ⊎_elim, ℕ, suc, ◌+◌, ◌<◌, ◌≤◌, Option, Some, None, List, [], ◌∷◌, ◌++◌, length, get_or, refl, sym, ◌∙◌, ap, subst, arith}
use Rattle.std.proofs.Math.Logic.{∥∥₁_map}
use Rattle.std.proofs.lemmas.Bool.{cases_lt}
use Rattle.std.proofs.lemmas.List.{length_push, get_or_push, get_or_append_left, get_or_past}
use Rattle.data_trace.specs.declared.kinds.Hop.{Hop}
use Rattle.data_trace.specs.declared.kinds.End.{End}
use Rattle.data_trace.specs.declared.kinds.End.TheVariants as the_end
use Rattle.data_trace.specs.declared.places.PlaceHop.{PlaceHop}
use Rattle.data_trace.specs.declared.places.PlaceHop.TheVariants.{NoRoute}
use Rattle.data_trace.specs.declared.places.PlaceEnd.TheVariants as place_end
use Rattle.data_trace.specs.declared.places.Mark.{Mark}
use Rattle.data_trace.specs.declared.places.Mark.TheVariants.{Unknown, Walked, Known}
use Rattle.data_trace.specs.declared.places.Group.{Group}
use Rattle.data_trace.specs.declared.sums.Sums.{Sums}
use Rattle.data_trace.specs.Marks.{as_hop, hop_at, next_of, mark_of, AreEnds}
use Rattle.data_trace.specs.Lists.{link_at, target, AreLists, HasLists, owner_but}
use Rattle.data_trace.specs.Columns.{group_at, gone}
use Rattle.data_trace.specs.Counted.{kept_end, adds, adds_at, summed, AreCounted}
use Rattle.data_trace.proofs.Ends.{ends_lost}
use Rattle.data_trace.proofs.Joining.{lists_same}
use Rattle.data_trace.proofs.Changes.{summed_same}
use Rattle.data_trace.proofs.Summing.{Test}

-- what is read beyond the end stands at the end now
pub default_more : {X : Type 0} (d : X) (xs : List X) (x : ℕ) → get_or (xs ++ d ∷ []) x d ≡ get_or xs x d
default_more d xs x = ⊎_elim (λ (l : x < length xs). get_or_append_left xs (d ∷ []) d x l) (λ (g : length xs ≤ x). past g (cases_lt (length xs) x)) (cases_lt x (length xs))
  where
    past : length xs ≤ x → (length xs < x) ⊎ (x ≤ length xs) → get_or (xs ++ d ∷ []) x d ≡ get_or xs x d
    past g (inl l) = get_or_past (xs ++ d ∷ []) x d (omega (arith, l, length_push xs d)) ∙ sym (get_or_past xs x d g)
    past g (inr l) = get_or_push xs d d x (omega (arith, g, l)) ∙ sym (get_or_past xs x d g)

next_more : (hops : List PlaceHop) → next_of (hops ++ NoRoute ∷ []) ≡ next_of hops
next_more hops = λ i x. ap as_hop (default_more NoRoute hops x) i

pub ends_more : (hops : List PlaceHop) (marks : List Mark) → AreEnds (next_of hops) (length hops) marks → AreEnds (next_of (hops ++ NoRoute ∷ [])) (length (hops ++ NoRoute ∷ [])) (marks ++ Known place_end.NoRoute ∷ [])
ends_more hops marks h = subst (λ (f : ℕ → Hop). AreEnds f (length (hops ++ NoRoute ∷ [])) (marks ++ Known place_end.NoRoute ∷ [])) (sym (next_more hops)) (record {
  len = omega (arith, length_push hops NoRoute, length_push marks (Known place_end.NoRoute), h.len);
  ends = λ x l. ⊎_elim (λ (k : x < length hops). ∥∥₁_map (h.ends x k) (λ r. (r.0, get_or_append_left marks (Known place_end.NoRoute ∷ []) Unknown x (omega (arith, k, h.len)) ∙ r.1, r.2)))
      (λ (k : length hops ≤ x). ∣ (place_end.NoRoute, get_or_push marks (Known place_end.NoRoute) Unknown x (omega (arith, k, l, h.len, length_push hops NoRoute)), ends_lost (next_of hops) x (ap as_hop (get_or_past hops x NoRoute k))) ∣₁) (cases_lt x (length hops));
})

pub lists_more : (hops : List PlaceHop) (first before after : List (Option ℕ)) → HasLists hops [] first before after → HasLists (hops ++ NoRoute ∷ []) [] (first ++ None ∷ []) (before ++ None ∷ []) (after ++ None ∷ [])
lists_more hops first before after h = record {
  first_len = omega (arith, length_push hops NoRoute, length_push first None, h.first_len);
  before_len = omega (arith, length_push hops NoRoute, length_push before None, h.before_len);
  after_len = omega (arith, length_push hops NoRoute, length_push after None, h.after_len);
  first_below = λ x y e. omega (arith, h.first_below x y (sym (default_more None first x) ∙ e), length_push hops NoRoute);
  before_below = λ x y e. omega (arith, h.before_below x y (sym (default_more None before x) ∙ e), length_push hops NoRoute);
  after_below = λ x y e. omega (arith, h.after_below x y (sym (default_more None after x) ∙ e), length_push hops NoRoute);
  lists = ∥∥₁_map h.lists (λ r. (
    r.0,
    lists_same (owner_but hops []) (owner_but (hops ++ NoRoute ∷ []) []) (link_at (first ++ None ∷ [])) (link_at (before ++ None ∷ [])) (link_at (after ++ None ∷ [])) r.0 (λ x. ap target (default_more NoRoute hops x))
        (subst (λ (t : ℕ → Option ℕ). AreLists (owner_but hops []) t (link_at (before ++ None ∷ [])) (link_at (after ++ None ∷ [])) r.0) (sym (link_more first))
        (subst (λ (t : ℕ → Option ℕ). AreLists (owner_but hops []) (link_at first) t (link_at (after ++ None ∷ [])) r.0) (sym (link_more before))
        (subst (λ (t : ℕ → Option ℕ). AreLists (owner_but hops []) (link_at first) (link_at before) t r.0) (sym (link_more after)) r.1))),
  ));
} where
  link_more : (links : List (Option ℕ)) → link_at (links ++ None ∷ []) ≡ link_at links
  link_more links = λ i x. default_more None links x i

adds_gone : (p : Test) (o : Option End) → adds p o gone ≡ 0
adds_gone p None = refl
adds_gone p (Some e) = refl

kept_more : (keys : List ℕ) (asn : ℕ) (m : Mark) → ((y : ℕ) → m ≡ Known (place_end.At y) → y < length keys) → kept_end (keys ++ asn ∷ []) m ≡ kept_end keys m
kept_more keys asn Unknown below = refl
kept_more keys asn Walked below = refl
kept_more keys asn (Known place_end.NoRoute) below = refl
kept_more keys asn (Known place_end.Loop) below = refl
kept_more keys asn (Known (place_end.At y)) below = ap (λ t. Some (the_end.At t)) (get_or_append_left keys (asn ∷ []) 0 y (below y refl))

pub counted_more : (sums : Sums) (keys : List ℕ) (marks : List Mark) (groups : List Group) (asn : ℕ) → AreCounted sums keys marks groups → AreCounted sums (keys ++ asn ∷ []) (marks ++ Known place_end.NoRoute ∷ []) (groups ++ gone ∷ [])
counted_more sums keys marks groups asn h = record {
  marks_len = omega (arith, length_push keys asn, length_push marks (Known place_end.NoRoute), h.marks_len);
  groups_len = omega (arith, length_push keys asn, length_push groups gone, h.groups_len);
  below = λ x y e. ⊎_elim (λ (l : x < length marks). omega (arith, h.below x y (sym (get_or_append_left marks (Known place_end.NoRoute ∷ []) Unknown x l) ∙ e), length_push keys asn))
      (λ (g : length marks ≤ x). absurd (past x y g e (cases_lt (length marks) x))) (cases_lt x (length marks));
  each = λ p.
      let f : ℕ → ℕ = adds_at p (keys ++ asn ∷ []) (marks ++ Known place_end.NoRoute ∷ []) (groups ++ gone ∷ []) in
      let n : ℕ = length keys in
      let last : f n ≡ 0 = ap (λ (g : Group). adds p (kept_end (keys ++ asn ∷ []) (mark_of (marks ++ Known place_end.NoRoute ∷ []) n)) g) (default_more gone groups n ∙ get_or_past groups n gone (omega (arith, h.groups_len))) ∙ adds_gone p _ in
      let e : length (keys ++ asn ∷ []) ≡ suc n = omega (arith, length_push keys asn) in
      let old : summed f n ≡ summed (adds_at p keys marks groups) n = summed_same f (adds_at p keys marks groups) n (λ x l.
      ap (λ (m : Mark). adds p (kept_end (keys ++ asn ∷ []) m) (group_at (groups ++ gone ∷ []) x)) (get_or_append_left marks (Known place_end.NoRoute ∷ []) Unknown x (omega (arith, l, h.marks_len)))
      ∙ ap (λ o. adds p o (group_at (groups ++ gone ∷ []) x)) (kept_more keys asn (mark_of marks x) (λ y q. h.below x y q))
      ∙ ap (λ (g : Group). adds p (kept_end keys (mark_of marks x)) g) (default_more gone groups x)) in
      let s : summed f (length (keys ++ asn ∷ [])) ≡ summed f n + f n = ap (summed f) e in
      h.each p ∙ omega (arith, s, old, last);
} where
  past : (x y : ℕ) → length marks ≤ x → mark_of (marks ++ Known place_end.NoRoute ∷ []) x ≡ Known (place_end.At y) → (length marks < x) ⊎ (x ≤ length marks) → ⊥
  past x y g e (inl l) = let k : Unknown ≡ Known (place_end.At y) = sym (get_or_past (marks ++ Known place_end.NoRoute ∷ []) x Unknown (omega (arith, l, length_push marks (Known place_end.NoRoute)))) ∙ e in cc
  past x y g e (inr l) = let k : Known place_end.NoRoute ≡ Known (place_end.At y) = sym (get_or_push marks (Known place_end.NoRoute) Unknown x (omega (arith, g, l))) ∙ e in cc

-- ---- the same, of columns that are told

module _ (hops hops' : List PlaceHop) (h : hops' ≡ hops ++ NoRoute ∷ []) where
  pub ends_added : (marks marks' : List Mark) → marks' ≡ marks ++ Known place_end.NoRoute ∷ [] → AreEnds (next_of hops) (length hops) marks → AreEnds (next_of hops') (length hops') marks'
  ends_added marks marks' m e = subst (λ hs. AreEnds (next_of hs) (length hs) marks') (sym h) (subst (λ ms. AreEnds (next_of (hops ++ NoRoute ∷ [])) (length (hops ++ NoRoute ∷ [])) ms) (sym m) (ends_more hops marks e))

  pub lists_added : (first first' before before' after after' : List (Option ℕ)) → first' ≡ first ++ None ∷ [] → before' ≡ before ++ None ∷ [] → after' ≡ after ++ None ∷ [] → HasLists hops [] first before after → HasLists hops' [] first' before' after'
  lists_added first first' before before' after after' f b a l =
      subst (λ t. HasLists t [] first' before' after') (sym h) (subst (λ t. HasLists (hops ++ NoRoute ∷ []) [] t before' after') (sym f)
      (subst (λ t. HasLists (hops ++ NoRoute ∷ []) [] (first ++ None ∷ []) t after') (sym b) (subst (λ t. HasLists (hops ++ NoRoute ∷ []) [] (first ++ None ∷ []) (before ++ None ∷ []) t) (sym a) (lists_more hops first before after l))))

  pub hop_added : (x : ℕ) → hop_at hops' x ≡ hop_at hops x
  hop_added x = ap (λ hs. hop_at hs x) h ∙ default_more NoRoute hops x

pub group_added : (groups groups' : List Group) → groups' ≡ groups ++ gone ∷ [] → (x : ℕ) → group_at groups' x ≡ group_at groups x
group_added groups groups' e x = ap (λ (gs : List Group). group_at gs x) e ∙ default_more gone groups x

pub counted_added : (sums : Sums) (keys keys' : List ℕ) (marks marks' : List Mark) (groups groups' : List Group) (asn : ℕ) → keys' ≡ keys ++ asn ∷ [] → marks' ≡ marks ++ Known place_end.NoRoute ∷ [] → groups' ≡ groups ++ gone ∷ [] →
    AreCounted sums keys marks groups → AreCounted sums keys' marks' groups'
counted_added sums keys keys' marks marks' groups groups' asn k m g h =
    subst (λ t. AreCounted sums t marks' groups') (sym k) (subst (λ t. AreCounted sums (keys ++ asn ∷ []) t groups') (sym m)
    (subst (λ t. AreCounted sums (keys ++ asn ∷ []) (marks ++ Known place_end.NoRoute ∷ []) t) (sym g) (counted_more sums keys marks groups asn h)))
