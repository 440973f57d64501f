use Rattle.std.proofs.Common.{◌∙◌, [], ◌∷◌, ◌++◌, ◌≢◌, ap, subst, sym}
use Rattle.std.specs.List.{All}
use Rattle.scenario_text.specs.Scenarios.{ScenarioValue}
use Rattle.topo_gen.proofs.UpTo.{more_policies, new_policy}
use Rattle.topo_gen.proofs.scenario.set_policies.Goals as goal

pub ases-init : goal.ases-init
ases-init c = ap (λ xs. record c.args.scenario.now { policies = xs }) c.requires.none

pub set_policy-requires : goal.set_policy-requires
set_policy-requires c =
    subst (λ (s : ScenarioValue). All (λ p. p.0 ≢ c.as_of.result) s.policies) (sym c.ases.invariant) (λ j d h is. new_policy c.ases.k j d h (is ∙ c.as_of.ensures))

pub ases-preserved : goal.ases-preserved
ases-preserved c =
    c.in_ok-set_policy.ensures.ok
    ∙ ap (λ (s : ScenarioValue). record s { policies = s.policies ++ (c.as_of.result, c.kind_of.result) ∷ [] }) c.ases.invariant
    ∙ rw (c.as_of.ensures, c.kind_of.ensures) (ap (λ xs. record c.args.scenario.now { policies = xs }) (more_policies c.ases.k))
