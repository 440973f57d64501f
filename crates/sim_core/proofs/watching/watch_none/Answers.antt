use Rattle.std.proofs.Common.{rules, ◌≡◌, ◌+◌, [], List, ap, map, sym, subst}
use Rattle.data_trace.specs.Views.{addr_of}
use Rattle.sim_core.specs.Watching.{HasWatches}
use Rattle.sim_core.specs.declared.watching.RoundWatches.{RoundWatches}
use Rattle.sim_core.proofs.Watches.{one_round_longer}
use Rattle.sim_core.proofs.watching.watch_none.Goals as goal

pub loop-past-preserved : goal.loop-past-preserved
loop-past-preserved c =
    let none : c.new-watches.result.items ≡ [] = search rules in
    subst (λ (all : List RoundWatches). HasWatches (c.loop-past._past + 1) [] all) (sym c.in_ok-push.ensures.items) (one_round_longer [] c.loop-past._past c.loop-past.all.items _ c.loop-past.invariant (ap (map addr_of) none))
