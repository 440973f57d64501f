use Rattle.std.proofs.Common.{◌≡◌, ℕ, true, false, take}
use Rattle.net_names.specs.Numbers.{occurs}
use Rattle.net_names.specs.Prefixes.{PrefixValue}
use Rattle.policy_kinds.specs.Kinds.{kind_policy}
use Rattle.stability_laws.specs.Book.{policy_at}
use Rattle.leak_round.specs.Touched.{touches}
use Rattle.sim_core.proofs.touching.touch_readers.Given as goal

abbrev pub invariant-loop-asn : goal.invariant-loop-asn
invariant-loop-asn l = record {
  these : (a : ℕ) → occurs a (take l.asn-index l.readers) ≡ true → (kind_policy (policy_at l.book a)).reads_state ≡ true → touches l.touched l.prefix a ≡ true;
  only : (p : PrefixValue) (a : ℕ) → touches l.touched p a ≡ true → touches l.fn.touched p a ≡ false → (p ≡ l.prefix) × ((kind_policy (policy_at l.book a)).reads_state ≡ true);
  more : (p : PrefixValue) (a : ℕ) → touches l.fn.touched p a ≡ true → touches l.touched p a ≡ true;
}
