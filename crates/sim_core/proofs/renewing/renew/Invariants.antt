use Rattle.std.proofs.Common.{◌≡◌, ◌<◌, ℕ, suc, Some}
use Rattle.std.specs.Prelude.{slice_get}
use Rattle.leak_round.specs.Rounds.{kept, plan_of}
use Rattle.sim_core.specs.Watching.{AreWatches, addrs_in, seen_in}
use Rattle.sim_core.specs.declared.watching.RoundWatches.{RoundWatches}
use Rattle.sim_core.proofs.Working.{IsWorked}
use Rattle.sim_core.proofs.renewing.renew.Given as goal

abbrev pub invariant-loop-place : goal.invariant-loop-place
invariant-loop-place l = record {
  so_far : IsWorked (λ y x. addrs_in x ≡ addrs_in y) l.fn.all.items l.all.items l.place;
  rows : (k : ℕ) (x : RoundWatches) → k < l.place → slice_get l.all.items k ≡ Some x → AreWatches l.graph (plan_of l.rounds) (kept l.rounds (suc k)) l.book (seen_in x);
}
