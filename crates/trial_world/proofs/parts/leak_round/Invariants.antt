use Rattle.std.proofs.Common.{◌≡◌, ℕ, ◌&&◌, ◌||◌, ◌==◌, take}
use Rattle.net_names.specs.Numbers.{occurs}
use Rattle.stability_laws.specs.Plans.{leaks_in}
use Rattle.trial_world.proofs.parts.leak_round.Given as goal

abbrev pub invariant-loop-asn : goal.invariant-loop-asn
invariant-loop-asn l = record {
  so_far : (r a : ℕ) → leaks_in l.part r a ≡ ((r == l.round && occurs a (take l.asn-index l.asn-items)) || leaks_in l.fn.part r a);
  announced : l.part.announced ≡ l.fn.part.announced;
  prefixes : l.part.prefixes ≡ l.fn.part.prefixes;
}
