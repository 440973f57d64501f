-- Places join the lists of the places that they send to.
use Rattle.std.proofs.Common.{◌≡◌, ◌≢◌, ◌⊎◌, inl, inr, ⊎_elim, ℕ, ◌+◌, ◌<◌, Bool, true, false, ◌||◌, eqb, Option, Some, None, List, ◌∷◌, length, get_or, drop, refl, sym, ◌∙◌, ap, subst, arith, cond, true≢false}
use Rattle.std.specs.Prelude.{nat_eq}
use Rattle.std.proofs.Math.Logic.{∥∥₁_map}
use Rattle.std.specs.List.{list_any, IsDistinct}
use Rattle.std.proofs.lemmas.Map.Keys.{apart_from_distinct}
use Rattle.data_trace.proofs.Traces.{in_at}
use Rattle.std.proofs.lemmas.Bool.{cases_eq, cases_Bool, eq-eqb}
use Rattle.std.proofs.lemmas.List.{length-drop, get_or-drop}
use Rattle.data_trace.specs.declared.places.PlaceHop.{PlaceHop}
use Rattle.data_trace.specs.declared.places.PlaceHop.TheVariants.{Here, To, NoRoute}
use Rattle.data_trace.specs.Traces.{IsIn}
use Rattle.data_trace.specs.Marks.{hop_at}
use Rattle.data_trace.specs.Lists.{link_at, target, AreLists, LinksFirst, owner_with, owner_but, HasLists}
use Rattle.data_trace.proofs.ListLemmas.{is_this, linked, owner_same, owner_other, eqb_no, rank_with}

pub lists_same : (owner other first before after : ℕ → Option ℕ) (rank : ℕ → ℕ) → ((x : ℕ) → other x ≡ owner x) → AreLists owner first before after rank → AreLists other first before after rank
lists_same owner other first before after rank e h = record {
  front = λ a b o n. h.front a b (sym (e a) ∙ o) n;
  behind = λ a b p o q. let k : (owner p ≡ Some b) × (after p ≡ Some a) × (rank p < rank a) = h.behind a b p (sym (e a) ∙ o) q in (e p ∙ k.0, k.1, k.2);
  starts = λ a b f. let k : (owner a ≡ Some b) × (before a ≡ None) = h.starts a b f in (e a ∙ k.0, k.1);
  goes_on = λ a b c o q. let k : (owner c ≡ Some b) × (before c ≡ Some a) = h.goes_on a b c (sym (e a) ∙ o) q in (e c ∙ k.0, k.1);
}

-- an AS without an owner stands in no list
pub no_owner : (owner : ℕ → Option ℕ) (a : ℕ) (o : Option ℕ) → owner a ≡ o → (x : ℕ) → owner_with owner a o x ≡ owner x
no_owner owner a o e x = ⊎_elim (λ (q : x ≡ a). ap (owner_with owner a o) q ∙ owner_same owner a o ∙ sym e ∙ ap owner (sym q)) (λ (q : x ≢ a). owner_other owner a x o q) (cases_eq x a)

-- the lists stay where each place is in the list that it was in
pub lists_owned : (hops hops' : List PlaceHop) (queue queue' : List ℕ) (first before after : List (Option ℕ)) → length hops' ≡ length hops → ((x : ℕ) → owner_but hops' queue' x ≡ owner_but hops queue x) →
    HasLists hops queue first before after → HasLists hops' queue' first before after
lists_owned hops hops' queue queue' first before after len same h = record {
  first_len = h.first_len ∙ sym len;
  before_len = h.before_len ∙ sym len;
  after_len = h.after_len ∙ sym len;
  first_below = λ x y e. subst (λ n. y < n) (sym len) (h.first_below x y e);
  before_below = λ x y e. subst (λ n. y < n) (sym len) (h.before_below x y e);
  after_below = λ x y e. subst (λ n. y < n) (sym len) (h.after_below x y e);
  lists = ∥∥₁_map h.lists (λ r. (r.0, lists_same (owner_but hops queue) (owner_but hops' queue') (link_at first) (link_at before) (link_at after) r.0 same r.1));
}

-- ---- a place joins the list of its next hop

owner_joins : (hops : List PlaceHop) (rest : List ℕ) (a x : ℕ) → list_any (nat_eq a) rest ≡ false → owner_but hops rest x ≡ owner_with (owner_but hops (a ∷ rest)) a (target (hop_at hops a)) x
owner_joins hops rest a x out = ⊎_elim here there (cases_eq x a)
  where
    here : x ≡ a → owner_but hops rest x ≡ owner_with (owner_but hops (a ∷ rest)) a (target (hop_at hops a)) x
    here e = ap (owner_but hops rest) e ∙ ap (λ b. cond b None (target (hop_at hops a))) out
        ∙ sym (ap (owner_with (owner_but hops (a ∷ rest)) a (target (hop_at hops a))) e ∙ owner_same (owner_but hops (a ∷ rest)) a (target (hop_at hops a)))

    there : x ≢ a → owner_but hops rest x ≡ owner_with (owner_but hops (a ∷ rest)) a (target (hop_at hops a)) x
    there ne = sym (owner_other (owner_but hops (a ∷ rest)) a x (target (hop_at hops a)) ne ∙ ap (λ b. cond (b || list_any (nat_eq x) rest) None (target (hop_at hops x))) (eqb_no x a ne))

module _ (hops : List PlaceHop) (rest : List ℕ) (first before after first' before' after' : List (Option ℕ)) (a : ℕ) (h : HasLists hops (a ∷ rest) first before after) (l : a < length hops) (out : list_any (nat_eq a) rest ≡ false) where
  no_list : owner_but hops (a ∷ rest) a ≡ None
  no_list = ap (λ b. cond (b || list_any (nat_eq a) rest) None (target (hop_at hops a))) (eq-eqb a a refl)

  pub join_none : target (hop_at hops a) ≡ None → HasLists hops rest first before after
  join_none t = lists_owned hops hops (a ∷ rest) rest first before after refl (λ x. owner_joins hops rest a x out ∙ no_owner (owner_but hops (a ∷ rest)) a (target (hop_at hops a)) (no_list ∙ sym t) x) h

  pub join_to : (b : ℕ) → hop_at hops a ≡ To b → length first' ≡ length first → length before' ≡ length before → length after' ≡ length after →
      LinksFirst (link_at first) (link_at before) (link_at after) (link_at first') (link_at before') (link_at after') a b (link_at first b) → HasLists hops rest first' before' after'
  join_to b t fl bl al u = record {
    first_len = fl ∙ h.first_len;
    before_len = bl ∙ h.before_len;
    after_len = al ∙ h.after_len;
    first_below = λ x y e. first_below x y e (cases_eq x b);
    before_below = λ x y e. before_below x y e (is_this (link_at first b) x) (cases_eq x a);
    after_below = λ x y e. after_below x y e (cases_eq x a);
    lists = ∥∥₁_map h.lists (λ r. (
      rank_with r.0 a,
      lists_same (owner_with (owner_but hops (a ∷ rest)) a (Some b)) (owner_but hops rest) (link_at first') (link_at before') (link_at after') (rank_with r.0 a)
          (λ x. owner_joins hops rest a x out ∙ ap (λ t. owner_with (owner_but hops (a ∷ rest)) a (target t) x) t)
          (linked (owner_but hops (a ∷ rest)) (link_at first) (link_at before) (link_at after) (link_at first') (link_at before') (link_at after') r.0 a b r.1 no_list u),
    ));
  } where
    some_same : (x y : ℕ) → Some x ≡ Some y → x ≡ y
    some_same x y e = cc

    first_below : (x y : ℕ) → link_at first' x ≡ Some y → (x ≡ b) ⊎ (x ≢ b) → y < length hops
    first_below x y e (inl q) = subst (λ t. t < length hops) (some_same a y (sym u.first_b ∙ ap (link_at first') (sym q) ∙ e)) l
    first_below x y e (inr q) = h.first_below x y (sym (u.first_other x q) ∙ e)

    before_below : (x y : ℕ) → link_at before' x ≡ Some y → (link_at first b ≡ Some x) ⊎ (link_at first b ≢ Some x) → (x ≡ a) ⊎ (x ≢ a) → y < length hops
    before_below x y e (inl c) w = subst (λ t. t < length hops) (some_same a y (sym (u.before_c x c) ∙ e)) l
    before_below x y e (inr c) (inl q) = let n : None ≡ Some y = sym (u.before_a (λ r. c (r ∙ ap Some (sym q)))) ∙ ap (link_at before') (sym q) ∙ e in cc
    before_below x y e (inr c) (inr q) = h.before_below x y (sym (u.before_other x q c) ∙ e)

    after_below : (x y : ℕ) → link_at after' x ≡ Some y → (x ≡ a) ⊎ (x ≢ a) → y < length hops
    after_below x y e (inl q) = h.first_below b y (sym u.after_a ∙ ap (link_at after') (sym q) ∙ e)
    after_below x y e (inr q) = h.after_below x y (sym (u.after_other x q) ∙ e)

-- the lists stay where only places of the queue get other next hops
pub lists_rewritten : (hops hops' : List PlaceHop) (queue : List ℕ) (first before after : List (Option ℕ)) → length hops' ≡ length hops → ((x : ℕ) → list_any (nat_eq x) queue ≡ false → hop_at hops' x ≡ hop_at hops x) →
    HasLists hops queue first before after → HasLists hops' queue first before after
lists_rewritten hops hops' queue first before after len same h = lists_owned hops hops' queue queue first before after len (λ x. owner x (list_any (nat_eq x) queue) refl) h
  where
    owner : (x : ℕ) (v : Bool) → list_any (nat_eq x) queue ≡ v → cond v None (target (hop_at hops' x)) ≡ cond v None (target (hop_at hops x))
    owner x true e = refl
    owner x false e = ap target (same x e)

-- equal columns have the same lists
pub lists_equal : {hops hops' : List PlaceHop} {queue queue' : List ℕ} {first first' before before' after after' : List (Option ℕ)} → hops' ≡ hops → queue' ≡ queue → first' ≡ first → before' ≡ before → after' ≡ after →
    HasLists hops queue first before after → HasLists hops' queue' first' before' after'
lists_equal {hops} {hops'} {queue} {queue'} {first} {first'} {before} {before'} {after} {after'} h q f b a x =
    subst (λ (hs : List PlaceHop). HasLists hs queue' first' before' after') (sym h)
    (subst (λ (t : List ℕ). HasLists hops t first' before' after') (sym q)
    (subst (λ (t : List (Option ℕ)). HasLists hops queue t before' after') (sym f)
    (subst (λ (t : List (Option ℕ)). HasLists hops queue first t after') (sym b)
    (subst (λ (t : List (Option ℕ)). HasLists hops queue first before t) (sym a) x))))

pub target_none : (h : PlaceHop) → ((b : ℕ) → h ≡ To b → ⊥) → target h ≡ None
target_none Here n = refl
target_none NoRoute n = refl
target_none (To b) n = absurd (n b refl)

-- of a list without repeats, an element is not among the later ones
pub apart_later : (xs : List ℕ) (i : ℕ) → IsDistinct nat_eq xs → i < length xs → list_any (nat_eq (get_or xs i 0)) (drop (i + 1) xs) ≡ false
apart_later xs i d l = ⊎_elim (λ (h : IsIn (get_or xs i 0) (drop (i + 1) xs)). absurd (no h)) (λ h. h) (cases_Bool (list_any (nat_eq (get_or xs i 0)) (drop (i + 1) xs)))
  where
    no : IsIn (get_or xs i 0) (drop (i + 1) xs) → ⊥
    no h =
        let r : (k : ℕ) × (k < length (drop (i + 1) xs)) × (get_or (drop (i + 1) xs) k 0 ≡ get_or xs i 0) = in_at _ (drop (i + 1) xs) h in
        let m : i + 1 + r.0 < length xs = omega (arith, r.1, length-drop (i + 1) xs) in
        let e : get_or xs i 0 ≡ get_or xs (i + 1 + r.0) 0 = sym r.2 ∙ get_or-drop (i + 1) xs r.0 0 in
        true≢false (sym (eq-eqb _ _ e) ∙ apart_from_distinct eqb xs i (i + 1 + r.0) 0 d (omega arith) m)
