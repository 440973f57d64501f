use Rattle.std.proofs.Common.{◌≡◌, take}
use Rattle.policy_kinds.specs.declared.kind.Kind.TheVariants.{Plain}
use Rattle.sim_core.proofs.Plans.{kinds_of}
use Rattle.sim_core.proofs.seeding.policies.Given as goal

abbrev pub invariant-loop-policy : goal.invariant-loop-policy
invariant-loop-policy l = record {
  rest : l.book.rest ≡ Plain;
  named : l.book.named ≡ kinds_of (take l.policy-index l.policy-items);
}
