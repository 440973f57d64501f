-- One activation over finite maps, and where entries stand after a run.
use Rattle.std.proofs.Common.{◌≡◌, ◌≢◌, ℕ, ◌<◌, true, false, ◌==◌, cond, Option, Some, None, List, [], ◌∷◌, length, get_or, true≢false, refl, sym, ◌∙◌, ap, subst}
use Rattle.std.proofs.lemmas.Bool.{or_left, or_right, eq-eqb, ne_eqb}
use Rattle.std.specs.Ordering.{nat_cmp, eq_by_cmp}
use Rattle.std.specs.Cmp.{nat_cmp_total, unsigned_tied}
use Rattle.std.specs.FinMap as map
use Rattle.net_names.specs.Numbers.{occurs}
use Rattle.stability_laws.specs.declared.entry.Entry.{Entry}
use Rattle.stability_laws.specs.declared.entry.Seed.{Seed}
use Rattle.stability_laws.specs.Offers.{Setting}
use Rattle.stability_laws.specs.Stable.{IsRight, IsStable}
use Rattle.stability_laws.specs.Steps.{IsStepWhole}
use Rattle.stability_laws.specs.Runs.{HasOnly}
use Rattle.stability_laws.specs.AnyOrder.{IsActivated}
use Rattle.stability_laws.specs.Answers.{IsRightWith}
use Rattle.as_graph.proofs.OrderLemmas.{place_of}

abbrev At : Type 0
At = map.FinMap nat_cmp Entry

here : (a : ℕ) → eq_by_cmp nat_cmp a a ≡ true
here a = unsigned_tied a a ∙ eq-eqb a a refl

apart : (n a : ℕ) → n ≢ a → eq_by_cmp nat_cmp n a ≡ false
apart n a ne = unsigned_tied n a ∙ ne_eqb n a ne

-- the entry with which the AS is right is put in
pub put_steps : (w : Setting) (seeds : ℕ → Option Seed) (m new : At) (a : ℕ) (e : Entry) → IsRightWith w seeds (map.get m) a (Some e) → new ≡ map.insert m a e → IsStepWhole w seeds (map.get m) a (map.get new)
put_steps w seeds m new a e right is =
    let at : (n : ℕ) → map.get new n ≡ cond (eq_by_cmp nat_cmp n a) (Some e) (map.get m n) = λ n. ap (λ t. map.get t n) is ∙ map.get-insert nat_cmp_total m a e n in
    record {
      others = λ n ne. at n ∙ ap (λ b. cond b (Some e) (map.get m n)) (apart n a ne);
      right = subst (λ t. IsRightWith w seeds (map.get m) a t) (sym (at a ∙ ap (λ b. cond b (Some e) (map.get m a)) (here a))) right;
    }

-- the AS is right with nothing, and what it holds is taken out
pub clear_steps : (w : Setting) (seeds : ℕ → Option Seed) (m new : At) (a : ℕ) → IsRightWith w seeds (map.get m) a None → new ≡ map.remove m a → IsStepWhole w seeds (map.get m) a (map.get new)
clear_steps w seeds m new a right is =
    let at : (n : ℕ) → map.get new n ≡ cond (eq_by_cmp nat_cmp n a) None (map.get m n) = λ n. ap (λ t. map.get t n) is ∙ map.get-remove nat_cmp_total m a n in
    record {
      others = λ n ne. at n ∙ ap (λ b. cond b None (map.get m n)) (apart n a ne);
      right = subst (λ t. IsRightWith w seeds (map.get m) a t) (sym (at a ∙ ap (λ b. cond b None (map.get m a)) (here a))) right;
    }

-- activations of ASes put nothing in elsewhere
pub outside_run : (w : Setting) (seeds : ℕ → Option Seed) (xs : List ℕ) (f g : ℕ → Option Entry) → HasOnly w.has xs → IsActivated w seeds xs f g → ((a : ℕ) → w.has a ≡ false → f a ≡ None) → (a : ℕ) → w.has a ≡ false → g a ≡ None
outside_run w seeds [] f g only run outside = subst (λ (t : ℕ → Option Entry). (a : ℕ) → w.has a ≡ false → t a ≡ None) run outside
outside_run w seeds (x ∷ xs) f g only (h, st, rest) outside =
    outside_run w seeds xs h g (λ a there. only a (or_right (x == a) _ there)) rest
    (λ a away. st.others a (λ e. true≢false (sym (only x (or_left (x == x) (occurs x xs) (eq-eqb x x refl))) ∙ ap w.has (sym e) ∙ away)) ∙ outside a away)

-- right at each AS of the list of all, and so stable
pub all_stable : (w : Setting) (seeds : ℕ → Option Seed) (ases : List ℕ) (f : ℕ → Option Entry) → ((a : ℕ) → occurs a ases ≡ w.has a) → ((a : ℕ) → w.has a ≡ false → f a ≡ None)
    → ((k : ℕ) → k < length ases → IsRight w seeds f (get_or ases k 0)) → IsStable w seeds f
all_stable w seeds ases f listed outside right = record {
  only_ases = outside;
  right = λ a is. let (k, less, at) = place_of ases a (listed a ∙ is) in subst (λ t. IsRight w seeds f t) at (right k less);
}
