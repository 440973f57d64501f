use Rattle.std.proofs.Common.{◌≡◌, ℕ, take}
use Rattle.std.specs.Prelude.{if◌then◌else◌}
use Rattle.net_names.specs.Numbers.{occurs}
use Rattle.policy_kinds.specs.declared.kind.Kind.TheVariants.{Plain}
use Rattle.stability_laws.specs.Book.{policy_at}
use Rattle.trial_world.proofs.kinds.copy_at.Given as goal

abbrev pub invariant-loop-asn : goal.invariant-loop-asn
invariant-loop-asn l = (a : ℕ) → policy_at l.copy a ≡ (if occurs a (take l.asn-index l.ases) then policy_at l.book a else Plain)
