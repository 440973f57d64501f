-- Why an edit is refused.
use Rattle.std.proofs.Common.{◌≡◌, ◌⊎◌, inl, inr, None, Some, refl, sym, ◌∙◌}
use Rattle.sim_core.specs.Edits.{IsReason, refusal_of_edit}
use Rattle.sim_core.specs.Laws.{IsCycle, OneReason}
use Rattle.sim_core.specs.World.{World}
use Rattle.sim_core.specs.declared.errors.EditError.{EditError}
use Rattle.sim_core.specs.declared.errors.EditError.TheVariants as refused
use Rattle.scenario_text.specs.declared.acts.Edit.{Edit}

-- a reason is the first one, or a provider cycle where there is none
reason_is : (w : World) (e : Edit) (x : EditError) → IsReason w e x → ((refusal_of_edit w e ≡ None) × IsCycle x) ⊎ (refusal_of_edit w e ≡ Some x)
reason_is w e (refused.ProviderCycle cycle) h = inl (h.0, (cycle, refl))
reason_is w e x h = inr h

-- an edit is refused for one reason, or each time for a provider cycle
pub one_reason : OneReason
one_reason w e x y h k = elim (reason_is w e x h) [
  | inl p ↦ elim (reason_is w e y k) [ inl q ↦ inr (p.1, q.1) | inr q ↦ absurd (let none : None ≡ Some y = sym p.0 ∙ q in cc) ]
  | inr p ↦ elim (reason_is w e y k) [ inl q ↦ absurd (let none : None ≡ Some x = sym q.0 ∙ p in cc) | inr q ↦ inl (let same : Some x ≡ Some y = sym p ∙ q in cc) ]
]
