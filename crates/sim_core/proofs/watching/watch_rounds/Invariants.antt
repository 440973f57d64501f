use Rattle.std.proofs.Common.{map}
use Rattle.leak_round.specs.Rounds.{kept, plan_of}
use Rattle.sim_core.specs.Watching.{AreRoundWatches, HasWatches, seen_in}
use Rattle.sim_core.proofs.watching.watch_rounds.Given as goal

abbrev pub invariant-loop-past : goal.invariant-loop-past
invariant-loop-past l = AreRoundWatches l.graph (plan_of l.rounds) (kept l.rounds) l.book l.past (map seen_in l.all.items) × HasWatches l.past l.addrs l.all.items
