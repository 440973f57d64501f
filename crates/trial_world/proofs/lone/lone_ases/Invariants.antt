use Rattle.std.proofs.Common.{◌≡◌, take}
use Rattle.std.specs.Prelude.{filter}
use Rattle.trial_world.specs.Fixed.{is_lone}
use Rattle.trial_world.proofs.lone.lone_ases.Given as goal

abbrev pub invariant-loop-asn : goal.invariant-loop-asn
invariant-loop-asn l = l.lone.items ≡ filter (is_lone l.graph l.plan) (take l.asn-index l.asn-items)
