use Rattle.std.proofs.Common.{◌≡◌, ℕ, ◌<◌, true, Some}
use Rattle.std.specs.Prelude.{slice_get}
use Rattle.net_names.specs.Coverage.{holds}
use Rattle.net_names.specs.Prefixes.{PrefixValue}
use Rattle.stability_laws.specs.Plans.{announced_path}
use Rattle.trial_world.specs.Fixed.{IsPart}
use Rattle.trial_world.proofs.parts.announce_holding.Given as goal

abbrev pub invariant-loop-prefix : goal.invariant-loop-prefix
invariant-loop-prefix l = record {
  part : IsPart l.addr l.whole l.part;
  leakers : l.part.leakers ≡ l.fn.part.leakers;
  there : (i : ℕ) (p : PrefixValue) → i < l.prefix-index → slice_get l.prefix-items i ≡ Some p → holds p l.addr ≡ true → (a : ℕ) → announced_path l.part p a ≡ announced_path l.whole p a;
}
