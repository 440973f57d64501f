-- A policy that compares views in a total order meets the law on ranking; the laws of an implementation cite these lemmas.
use Rattle.std.specs.Prelude.{◌≡◌, ◌≢◌, ◌⊎◌, true, IsTrue, refl}
use Rattle.std.proofs.Common.{inl, inr, ap, sym, ◌∙◌}
use Rattle.std.specs.declared.cmp.Ordering.{Ordering}
use Rattle.std.specs.declared.cmp.Ordering.TheVariants.{Less, Equal, Greater}
use Rattle.std.specs.Ordering.{ordering_then, ordering_reverse, is_lt}
use Rattle.std.specs.Cmp.{IsTotalOrder}
use Rattle.std.proofs.lemmas.Cmp.{tied_itself}
use Rattle.policy_laws.specs.declared.policy.View.{View}
use Rattle.policy_laws.specs.Policy.{Policy, RanksOffers}

is_less : (r : Ordering) → is_lt r ≡ true → r ≡ Less
is_less Less e = refl
is_less Equal e = cc
is_less Greater e = cc

untied : (r s : Ordering) → r ≡ ordering_reverse s → r ≢ Equal → (is_lt r ≡ true) ⊎ (is_lt s ≡ true)
untied Less s e n = inl refl
untied Equal s e n = absurd (n refl)
untied Greater Less e n = inr refl
untied Greater Equal e n = cc
untied Greater Greater e n = cc

-- a policy ranks offers where it compares views in a total order that ties only views of one neighbour
pub ranks_by : (p : Policy) (cmp : View → View → Ordering) → ((x y : View) → p.before x y ≡ is_lt (cmp x y)) → IsTotalOrder cmp → ((x y : View) → cmp x y ≡ Equal → x.neighbour ≡ y.neighbour) → RanksOffers p
ranks_by p cmp is total ties = record {
  irreflexive = λ x. is x x ∙ ap is_lt (tied_itself total x);
  transitive = λ x y z a b. is x z ∙ ap is_lt (total.trans x y z (is_less _ (sym (is x y) ∙ a)) (is_less _ (sym (is y z) ∙ b)));
  total = λ x y n. let back : (r : Ordering) → r ≡ cmp x y → (is_lt r ≡ true) ⊎ (is_lt (cmp y x) ≡ true) → IsTrue (p.before x y) ⊎ IsTrue (p.before y x) = λ r e c. elim c [ inl a ↦ inl (is x y ∙ ap is_lt (sym e) ∙ a) | inr a ↦ inr (is y x ∙ a) ] in
      back (cmp x y) refl (untied (cmp x y) (cmp y x) (total.antisymm x y) (λ e. n (ties x y e)));
}

-- where a comparison of two parts ties, the second part ties
pub last_tied : (r s : Ordering) → ordering_then r s ≡ Equal → s ≡ Equal
last_tied Less s e = cc
last_tied Equal s e = e
last_tied Greater s e = cc
