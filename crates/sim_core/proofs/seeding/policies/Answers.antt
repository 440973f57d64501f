use Rattle.std.proofs.Common.{◌∙◌, ◌++◌, ◌∷◌, ◌+◌, ◌<◌, [], ap, subst, sym, length, get_or, take, List, ℕ}
use Rattle.std.proofs.lemmas.List.{take_more}
use Rattle.policy_kinds.specs.declared.kind.Kind.{Kind}
use Rattle.sim_core.proofs.Plans.{kinds_of, policy_new}
use Rattle.sim_core.proofs.seeding.policies.Goals as goal

pub loop-policy-preserved : goal.loop-policy-preserved
loop-policy-preserved c =
    let items = c.policies-policy-items.ensures.value in
    let inside = subst (λ (xs : List (ℕ × Kind)). c.loop-policy.policy-index < length xs) items c.loop-policy-test.true in
    let here = c.policy-item.is ∙ ap (λ (xs : List (ℕ × Kind)). get_or xs c.loop-policy.policy-index c.policy-item.result) items in
    let new = policy_new c.args.scenario.now c.loop-policy.policy-index c.policy-item.result c.policies-policy-items.ensures.scenario inside here in
    let so = c.loop-policy.invariant.named ∙ ap (λ (xs : List (ℕ × Kind)). kinds_of (take c.loop-policy.policy-index xs)) items in
    record {
      rest = c.name_policy.ensures.rest ∙ c.loop-policy.invariant.rest;
      named = c.in_ok-name_policy.ensures.named (take c.loop-policy.policy-index c.args.scenario.now.policies) new so
          ∙ ap kinds_of (ap (λ y. take c.loop-policy.policy-index c.args.scenario.now.policies ++ y ∷ []) here ∙ sym (take_more c.args.scenario.now.policies c.loop-policy.policy-index c.policy-item.result inside))
          ∙ ap (λ (xs : List (ℕ × Kind)). kinds_of (take (c.loop-policy.policy-index + 1) xs)) (sym items);
    }
