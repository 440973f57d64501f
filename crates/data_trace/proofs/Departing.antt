-- Places leave the lists of the places that they send to.
use Rattle.std.proofs.Common.{◌≡◌, ◌≢◌, ◌⊎◌, inl, inr, ⊎_elim, ℕ, ◌<◌, Bool, true, false, ◌||◌, Option, Some, None, List, [], ◌∷◌, ◌++◌, length, refl, sym, ◌∙◌, ap, subst, cond}
use Rattle.std.specs.Prelude.{nat_eq}
use Rattle.std.proofs.Math.Logic.{∥∥₁_map}
use Rattle.std.specs.List.{list_any}
use Rattle.std.proofs.lemmas.Bool.{cases_eq}
use Rattle.std.proofs.lemmas.List.Folds.{list_any-append}
use Rattle.data_trace.specs.declared.places.PlaceHop.{PlaceHop}
use Rattle.data_trace.specs.declared.places.PlaceHop.TheVariants.{To}
use Rattle.data_trace.specs.Traces.{IsIn}
use Rattle.data_trace.specs.Marks.{hop_at}
use Rattle.data_trace.specs.Lists.{link_at, target, Unlinks, owner_with, owner_but, HasLists}
use Rattle.data_trace.proofs.Walking.{last_in}
use Rattle.data_trace.proofs.ListLemmas.{is_this, or_none, unlinked, owner_same, owner_other, eqb_no}
use Rattle.data_trace.proofs.Joining.{lists_same, lists_owned, no_owner}

or_false : (b : Bool) → (b || false) ≡ b
or_false true = refl
or_false false = refl

owner_push : (hops : List PlaceHop) (queue : List ℕ) (a x : ℕ) → owner_but hops (queue ++ a ∷ []) x ≡ owner_with (owner_but hops queue) a None x
owner_push hops queue a x = ⊎_elim here there (cases_eq x a)
  where
    here : x ≡ a → owner_but hops (queue ++ a ∷ []) x ≡ owner_with (owner_but hops queue) a None x
    here e = ap (λ b. cond b None (target (hop_at hops x))) (subst (λ t. IsIn t (queue ++ a ∷ [])) (sym e) (last_in a queue)) ∙ sym (ap (owner_with (owner_but hops queue) a None) e ∙ owner_same (owner_but hops queue) a None)

    there : x ≢ a → owner_but hops (queue ++ a ∷ []) x ≡ owner_with (owner_but hops queue) a None x
    there ne =
        let f : list_any (nat_eq x) (queue ++ a ∷ []) ≡ list_any (nat_eq x) queue = list_any-append (nat_eq x) queue (a ∷ []) ∙ ap (λ b. list_any (nat_eq x) queue || (b || false)) (eqb_no x a ne) ∙ or_false _ in
        ap (λ b. cond b None (target (hop_at hops x))) f ∙ sym (owner_other (owner_but hops queue) a x None ne)

module _ (hops : List PlaceHop) (queue : List ℕ) (first before after first' before' after' : List (Option ℕ)) (a : ℕ) (h : HasLists hops queue first before after) (out : list_any (nat_eq a) queue ≡ false) where
  pub leave_none : target (hop_at hops a) ≡ None → HasLists hops (queue ++ a ∷ []) first before after
  leave_none t = lists_owned hops hops queue (queue ++ a ∷ []) first before after refl (λ x. owner_push hops queue a x ∙ no_owner (owner_but hops queue) a None (ap (λ b. cond b None (target (hop_at hops a))) out ∙ t) x) h

  pub leave_to : (b : ℕ) → hop_at hops a ≡ To b → length first' ≡ length first → length before' ≡ length before → length after' ≡ length after →
      Unlinks (link_at first) (link_at before) (link_at after) (link_at first') (link_at before') (link_at after') b (link_at before a) (link_at after a) → HasLists hops (queue ++ a ∷ []) first' before' after'
  leave_to b t fl bl al u = record {
    first_len = fl ∙ h.first_len;
    before_len = bl ∙ h.before_len;
    after_len = al ∙ h.after_len;
    first_below = λ x y e. first_below x y e (or_none (link_at before a));
    before_below = λ x y e. ⊎_elim (λ (c : link_at after a ≡ Some x). h.before_below a y (sym (u.before_c x c) ∙ e)) (λ (c : link_at after a ≢ Some x). h.before_below x y (sym (u.before_other x c) ∙ e)) (is_this (link_at after a) x);
    after_below = λ x y e. ⊎_elim (λ (c : link_at before a ≡ Some x). h.after_below a y (sym (u.after_p x c) ∙ e)) (λ (c : link_at before a ≢ Some x). h.after_below x y (sym (u.after_other x c) ∙ e)) (is_this (link_at before a) x);
    lists = ∥∥₁_map h.lists (λ r. (
      r.0,
      lists_same (owner_with (owner_but hops queue) a None) (owner_but hops (queue ++ a ∷ [])) (link_at first') (link_at before') (link_at after') r.0 (owner_push hops queue a)
          (unlinked (owner_but hops queue) (link_at first) (link_at before) (link_at after) (link_at first') (link_at before') (link_at after') r.0 a b r.1
          (ap (λ q. cond q None (target (hop_at hops a))) out ∙ ap target t) u),
    ));
  } where
    first_below : (x y : ℕ) → link_at first' x ≡ Some y → (link_at before a ≡ None) ⊎ ((p : ℕ) × (link_at before a ≡ Some p)) → y < length hops
    first_below x y e (inr p) = h.first_below x y (sym (u.first_other x (λ n. let q : None ≡ Some p.0 = sym n ∙ p.1 in cc)) ∙ e)
    first_below x y e (inl n) = ⊎_elim (λ (q : x ≡ b). h.after_below a y (sym (u.first_b n) ∙ ap (link_at first') (sym q) ∙ e)) (λ (q : x ≢ b). h.first_below x y (sym (u.first_other x (λ m. q)) ∙ e)) (cases_eq x b)
