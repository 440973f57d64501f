use Rattle.std.proofs.Common.{◌≡◌, ℕ, true, Some, take}
use Rattle.net_names.specs.Numbers.{last_or, occurs}
use Rattle.stability_laws.specs.declared.entry.Seed.{Seed}
use Rattle.route_choice.specs.Routings.{seeds_of}
use Rattle.three_pass.proofs.states.state_of_all.Given as goal

abbrev pub invariant-loop-asn : goal.invariant-loop-asn
invariant-loop-asn g l = (a : ℕ) (s : Seed) → occurs a (take l.asn-index l.ases) ≡ true → seeds_of l.pool l.seeds a ≡ Some s →
    l.all ≡ Some (g.V.OriginStates.state_of l.states l.prefix (last_or 0 s.path))
