use Rattle.std.proofs.Common.{◌≡◌, ◌++◌, take}
use Rattle.cycle_check.specs.Providers.{provider_places}
use Rattle.cycle_check.proofs.provider_rows.put_all.Given as goal

abbrev pub invariant-loop-at : goal.invariant-loop-at
invariant-loop-at l = l.items.items ≡ l.fn.items.items ++ provider_places l.ases (take l.at l.neighbours)
