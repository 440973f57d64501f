-- Between two worlds with the same rounds and prefixes one number of entries differ.
use Rattle.std.proofs.Common.{◌≡◌, ℕ, ◌≤◌, IsTrue, None, refl, sym, ap, ◌∙◌, arith}
use Rattle.std.specs.FinMap as fin
use Rattle.std.specs.List.{Contains}
use Rattle.std.proofs.lemmas.List.Sorted.{length_permutation}
use Rattle.net_names.specs.Prefixes.{PrefixValue}
use Rattle.stability_laws.specs.Plans.{Plan, has_prefix}
use Rattle.leak_round.specs.Changes.{Family, HasChanges}
use Rattle.scenario_text.specs.declared.acts.Edit.{Edit}
use Rattle.scenario_text.specs.declared.acts.Edit.TheVariants as edit
use Rattle.sim_core.specs.Edits.{edited, refusal_of_edit}
use Rattle.sim_core.specs.Kept.{IsKept, Kept}
use Rattle.sim_core.specs.World.{World}
use Rattle.sim_core.proofs.Elements.{same_elements}
use Rattle.sim_core.proofs.Families.{one_family}

-- two families are the same at the rounds and prefixes
abbrev AreSame : Plan → ℕ → Family → Family → Type 0
AreSame plan rounds g h = (round : ℕ) (p : PrefixValue) → 1 ≤ round → round ≤ rounds → IsTrue (has_prefix plan p) → (a : ℕ) → g round p a ≡ h round p a

-- the triples of the one list are those of the other
carried : (plan : Plan) (rounds : ℕ) (old new past now : Family) (m n : ℕ) → AreSame plan rounds old past → AreSame plan rounds new now → (x : HasChanges plan rounds old new m) (y : HasChanges plan rounds past now n)
    → (z : ℕ × (PrefixValue × ℕ)) → Contains x.0 z → Contains y.0 z
carried plan rounds old new past now m n before after x y z c =
    let is = (x.3 z.0 z.1.0 z.1.1).0 c in
    (y.3 z.0 z.1.0 z.1.1).1 (is.0, is.1, is.2, λ same. is.3 (after z.0 z.1.0 is.0 is.1 is.2 z.1.1 ∙ (same ∙ sym (before z.0 z.1.0 is.0 is.1 is.2 z.1.1))))

-- one number of triples differ
one_number : (plan : Plan) (rounds : ℕ) (old new past now : Family) (m n : ℕ) → AreSame plan rounds old past → AreSame plan rounds new now → HasChanges plan rounds old new m → HasChanges plan rounds past now n → m ≡ n
one_number plan rounds old new past now m n before after x y =
    let order = same_elements x.0 y.0 x.1 y.1 (carried plan rounds old new past now m n before after x y)
    (carried plan rounds past now old new n m (λ r p low high known a. sym (before r p low high known a)) (λ r p low high known a. sym (after r p low high known a)) y x) in
    sym x.2 ∙ (sym (length_permutation x.0 y.0 order) ∙ y.2)

-- one number of entries differ between what is kept of two worlds
pub one_count : (w after : World) (k l now again : Kept) (m n : ℕ) → IsKept w k → IsKept w l → IsKept after now → IsKept after again → after.rounds ≡ w.rounds → ((p : PrefixValue) → has_prefix after.plan p ≡ has_prefix w.plan p)
    → HasChanges after.plan after.rounds k.routings now.routings m → HasChanges after.plan after.rounds l.routings again.routings n → m ≡ n
one_count w after k l now again m n x y u v rounds prefixes =
    one_number after.plan after.rounds k.routings now.routings l.routings again.routings m n
    (λ round p low high known a. one_family w k.routings l.routings x.routings y.routings round p low (omega (arith, high, rounds)) (sym (prefixes p) ∙ known) a)
    (λ round p low high known a. one_family after now.routings again.routings u.routings v.routings round p low high known a)

-- an edit leaves the number of rounds and the prefixes
still_there : (w : World) (e : Edit) → ((edited w e).rounds ≡ w.rounds) × ((edited w e).plan.prefixes ≡ w.plan.prefixes)
still_there w (edit.Link a b rel) = (refl, refl)
still_there w (edit.Unlink a b) = (refl, refl)
still_there w (edit.Policy a kind) = (refl, refl)
still_there w (edit.VrpAdd vrp) = (refl, refl)
still_there w (edit.VrpTake vrp) = (refl, refl)
still_there w (edit.Announce prefix path) = (refl, refl)
still_there w (edit.Withdraw prefix a) = (refl, refl)

-- one number of entries differ after an edit that is not refused
pub one_edit_count : (w : World) (e : Edit) (k l now again : Kept) (m n : ℕ) → refusal_of_edit w e ≡ None → IsKept w k → IsKept w l → IsKept (edited w e) now → IsKept (edited w e) again
    → HasChanges (edited w e).plan (edited w e).rounds k.routings now.routings m → HasChanges (edited w e).plan (edited w e).rounds l.routings again.routings n → m ≡ n
one_edit_count w e k l now again m n accepted x y u v =
    let prefixes = (still_there w e).1 in
    one_count w (edited w e) k l now again m n x y u v (still_there w e).0 (λ p. ap (λ s. fin.contains_key s p) prefixes)
