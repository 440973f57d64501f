use Rattle.std.proofs.Common.{◌≡◌, ◌<◌, ℕ, List, Some}
use Rattle.std.specs.Prelude.{slice_get}
use Rattle.net_names.specs.Numbers.{last_or}
use Rattle.origin_validation.specs.Judging.{state_of}
use Rattle.roa_table.specs.Sets.{taken}
use Rattle.stability_laws.specs.Plans.{announced_path}
use Rattle.sim_core.proofs.touching.differs_at.Given as goal

abbrev pub invariant-loop-asn : goal.invariant-loop-asn
invariant-loop-asn l = (place a : ℕ) (path : List ℕ) → place < l.asn-index → slice_get l.asn-items place ≡ Some a → announced_path l.plan l.prefix a ≡ Some path → state_of (taken l.vrps l.vrp) l.prefix (last_or 0 path) ≡ state_of l.vrps l.prefix (last_or 0 path)
