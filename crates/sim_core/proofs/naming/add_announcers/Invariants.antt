use Rattle.std.proofs.Common.{◌≡◌, ◌++◌, map, take}
use Rattle.scenario_text.specs.declared.scenario.Announcement.{Announcement}
use Rattle.sim_core.proofs.naming.add_announcers.Given as goal

abbrev pub invariant-loop-announcement : goal.invariant-loop-announcement
invariant-loop-announcement l = l.names.items ≡ l.fn.names.items ++ map (λ (a : Announcement). a.asn) (take l.announcement-index l.announcements)
