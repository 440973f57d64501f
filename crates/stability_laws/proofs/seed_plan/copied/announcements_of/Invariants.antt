use Rattle.std.proofs.Common.{◌≡◌, take}
use Rattle.stability_laws.proofs.seed_plan.copied.announcements_of.Given as goal

abbrev pub invariant-loop-announcement : goal.invariant-loop-announcement
invariant-loop-announcement l = l.copies.items ≡ take l.announcement-index l.announced
