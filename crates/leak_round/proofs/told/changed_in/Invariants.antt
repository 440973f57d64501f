use Rattle.std.proofs.Common.{◌≡◌, ℕ, take}
use Rattle.net_names.specs.Numbers.{occurs}
use Rattle.leak_round.specs.Told.{changes_at}
use Rattle.leak_round.proofs.told.changed_in.Given as goal

abbrev pub invariant-loop-change : goal.invariant-loop-change
invariant-loop-change l = (a : ℕ) → occurs a l.ases.items ≡ changes_at (take l.change-index l.changes) l.round a
