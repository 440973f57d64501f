use Rattle.std.proofs.Common.{◌≡◌, ℕ, zero, suc, ◌-◌, ◌<◌, [], sym, ap, ◌∙◌, arith}
use Rattle.std.specs.Prelude.{slice_get}
use Rattle.std.specs.Option.{option_copied, option_map_or}
use Rattle.stability_laws.proofs.KeyLists.{copied_at}
use Rattle.leak_round.specs.declared.plans.RoundsDone.{RoundsDone}
use Rattle.leak_round.specs.Plans.{ases_told}
use Rattle.leak_round.proofs.plans.RoundsDone.changed_in.Goals as goal
use Rattle.leak_round.proofs.plans.RoundsDone.changed_in.Goals.{After-get}

told_at : (d : RoundsDone) (round : ℕ) → 0 < round → ases_told d round ≡ option_map_or (λ v. v.items) (slice_get d.changed.items (round - 1)) []
told_at d zero some = absurd (omega (arith, some))
told_at d (suc before) some = ap (λ n. option_map_or (λ v. v.items) (slice_get d.changed.items n) []) (let same : before ≡ suc before - 1 = omega arith in same)

-- what is told of the round is what was got
told_got : (c : After-get) → ases_told c.args.self.now c.args.round ≡ option_map_or (λ v. v.items) (option_copied c.get.result) []
told_got c =
    let d = c.args.self.now in
    let place = c.args.round - 1 in
    let some : 0 < c.args.round = omega arith in
    let at = sym (ap (λ xs. slice_get xs place) c.deref.ensures.value) ∙ sym (copied_at c.deref.result.now place c.get.result c.get.ensures.lookup.1 c.get.ensures.lookup.3) in
    told_at d c.args.round some ∙ ap (λ o. option_map_or (λ v. v.items) o []) at

pub returns-then-round-eq0 : goal.returns-then-round-eq0
returns-then-round-eq0 c = c.as_slice.ensures.value ∙ c.args.self.now.empty ∙ sym (ap (ases_told c.args.self.now) c.if-round-eq0.true)

pub returns-in-Some : goal.returns-in-Some
returns-in-Some c = c.as_slice-in-Some.ensures.value ∙ sym (told_got (goal.at.returns-in-Some c).After-get ∙ ap (λ o. option_map_or (λ v. v.items) o []) (ap option_copied c.in-Some.is))

pub returns-in-None : goal.returns-in-None
returns-in-None c = c.as_slice-in-None.ensures.value ∙ c.args.self.now.empty ∙ sym (told_got (goal.at.returns-in-None c).After-get ∙ ap (λ o. option_map_or (λ v. v.items) o []) (ap option_copied c.in-None.is))
