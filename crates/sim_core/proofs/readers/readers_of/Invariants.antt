use Rattle.std.proofs.Common.{◌≡◌, ℕ, true, take}
use Rattle.net_names.specs.Numbers.{occurs}
use Rattle.policy_kinds.specs.Kinds.{kind_policy}
use Rattle.stability_laws.specs.Book.{policy_at}
use Rattle.sim_core.proofs.readers.readers_of.Given as goal

abbrev pub invariant-loop-asn : goal.invariant-loop-asn
invariant-loop-asn l = (a : ℕ) → occurs a (take l.asn-index l.asn-items) ≡ true → (kind_policy (policy_at l.book a)).reads_state ≡ true → occurs a l.readers.ases ≡ true
