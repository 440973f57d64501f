use Rattle.std.proofs.Common.{◌≡◌, ℕ, Option, Some, None, false, refl, sym, ◌∙◌}
use Rattle.std.proofs.lemmas.Bool.{true≢false}
use Rattle.std.specs.Prelude.{is_some}
use Rattle.stability_laws.specs.Plans.{leaks_in, leakers_of}
use Rattle.stability_laws.proofs.Listing.{occurs-listed}
use Rattle.leak_round.proofs.own_seeds.has_leakers.Goals as goal

none : (o : Option ℕ) → is_some o ≡ false → o ≡ None
none None e = refl
none (Some x) e = absurd (true≢false e)

pub returns : goal.returns
returns c = λ quiet a.
    sym (occurs-listed (leaks_in c.args.plan.now c.args.round) (leakers_of c.args.plan.now c.args.round) c.leaker_at.ensures.listed 0 (sym c.leaker_at.ensures.value ∙ none c.leaker_at.result (sym c.is_some.ensures ∙ quiet)) a)
