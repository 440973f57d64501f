use Rattle.std.proofs.Common.{◌≡◌, inl, inr, true, false, not, sym, ◌∙◌, ap}
use Rattle.std.proofs.lemmas.Bool.{cases_Bool}
use Rattle.three_pass.proofs.passes.has_none_to_take.Goals as goal

pub returns-then-is_untold : goal.returns-then-is_untold
returns-then-is_untold c = λ no. (
  elim (cases_Bool c.has.result) [ inl t ↦ (let x : false ≡ true = sym (ap not t) ∙ no in cc) | inr f ↦ sym c.has.ensures.value ∙ f ],
  c.is_untold.ensures c.if-is_untold.true,
)
