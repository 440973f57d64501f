use Rattle.std.proofs.Common.{◌≡◌, map, take}
use Rattle.stability_laws.specs.Book.{policy_at}
use Rattle.sweep.specs.Trials.{with_kinds}
use Rattle.trial_world.proofs.kinds.kinds_of.Given as goal

abbrev pub invariant-loop-change : goal.invariant-loop-change
invariant-loop-change l = l.kinds.items ≡ with_kinds (policy_at l.book) (map (λ c. c.0) (take l.change-index l.changes))
