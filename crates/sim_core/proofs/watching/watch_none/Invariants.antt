use Rattle.std.proofs.Common.{[]}
use Rattle.sim_core.specs.Watching.{HasWatches}
use Rattle.sim_core.proofs.watching.watch_none.Given as goal

abbrev pub invariant-loop-past : goal.invariant-loop-past
invariant-loop-past l = HasWatches l._past [] l.all.items
