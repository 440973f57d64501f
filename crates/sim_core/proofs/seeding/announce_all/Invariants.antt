use Rattle.std.proofs.Common.{◌≡◌, [], take}
use Rattle.sim_core.proofs.Plans.{planned}
use Rattle.sim_core.proofs.seeding.announce_all.Given as goal

abbrev pub invariant-loop-announcement : goal.invariant-loop-announcement
invariant-loop-announcement l = l.plan ≡ planned (take l.announcement-index l.announcement-items) []
