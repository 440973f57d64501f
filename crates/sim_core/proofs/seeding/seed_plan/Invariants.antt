use Rattle.std.proofs.Common.{◌≡◌, ◌+◌, take}
use Rattle.sim_core.proofs.Plans.{leaks_from, planned}
use Rattle.sim_core.proofs.seeding.seed_plan.Given as goal

abbrev pub invariant-loop-leakers : goal.invariant-loop-leakers
invariant-loop-leakers l = record {
  round : l.round ≡ 2 + l.leakers-index;
  plan : l.plan ≡ planned l.scenario.announcements (leaks_from 2 (take l.leakers-index l.leakers-items));
}
