use Rattle.std.proofs.Common.{◌≡◌, ℕ, true, false, take}
use Rattle.net_names.specs.Numbers.{occurs}
use Rattle.net_names.specs.Prefixes.{PrefixValue}
use Rattle.leak_round.specs.Touched.{touches}
use Rattle.sim_core.proofs.touching.touch.Given as goal

abbrev pub invariant-loop-asn : goal.invariant-loop-asn
invariant-loop-asn l = record {
  these : (a : ℕ) → occurs a (take l.asn-index l.ases) ≡ true → touches l.touched l.prefix a ≡ true;
  only : (p : PrefixValue) (a : ℕ) → touches l.touched p a ≡ true → touches l.fn.touched p a ≡ false → (p ≡ l.prefix) × (occurs a l.ases ≡ true);
  more : (p : PrefixValue) (a : ℕ) → touches l.fn.touched p a ≡ true → touches l.touched p a ≡ true;
}
