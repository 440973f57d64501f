use Rattle.std.proofs.Common.{◌≡◌, ℕ, true, take}
use Rattle.net_names.specs.Addresses.{AddrValue}
use Rattle.net_names.specs.Coverage.{holds}
use Rattle.net_names.specs.Numbers.{occurs}
use Rattle.stability_laws.specs.Plans.{announced_path}
use Rattle.trial_world.specs.Fixed.{IsGrown, IsPart}
use Rattle.trial_world.proofs.parts.announce_prefix.Given as goal

abbrev pub invariant-loop-asn : goal.invariant-loop-asn
invariant-loop-asn l = record {
  grown : IsGrown l.whole l.prefix l.fn.part l.part;
  there : (addr : AddrValue) → holds l.prefix addr ≡ true → IsPart addr l.whole l.fn.part → (a : ℕ) → occurs a (take l.asn-index l.asn-items) ≡ true → announced_path l.part l.prefix a ≡ announced_path l.whole l.prefix a;
  leakers : l.part.leakers ≡ l.fn.part.leakers;
}
