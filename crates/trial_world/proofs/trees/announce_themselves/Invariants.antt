use Rattle.std.proofs.Common.{◌≡◌, ℕ, ◌<◌, Some, List, [], ◌∷◌}
use Rattle.std.specs.Prelude.{slice_get}
use Rattle.stability_laws.specs.Plans.{announced_path}
use Rattle.trial_world.proofs.trees.announce_themselves.Given as goal

abbrev pub invariant-loop-asn : goal.invariant-loop-asn
invariant-loop-asn l = (i a : ℕ) → i < l.asn-index → slice_get l.asn-items i ≡ Some a → (path : List ℕ) → announced_path l.plan l.prefix a ≡ Some path → path ≡ a ∷ []
