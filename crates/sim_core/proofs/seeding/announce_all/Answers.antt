use Rattle.sim_core.proofs.Plans.{announced_more, announced_new, planned}
use Rattle.std.proofs.Common.{◌≡◌, ◌∙◌, ap, subst, sym, length, get_or, ◌<◌, ◌+◌}
use Rattle.scenario_text.specs.declared.scenario.Announcement.{Announcement}
use Rattle.std.proofs.Common.{List, take, []}
use Rattle.sim_core.proofs.seeding.announce_all.Goals as goal

pub announce-requires-clause-new : goal.announce-requires-clause-new
announce-requires-clause-new c =
    let items = c.announcements-announcement-items.ensures.value in
    announced_new c.args.scenario.now c.loop-announcement.announcement-index c.announcement-item.result c.in_ok-path.path c.loop-announcement.plan
    c.announcements-announcement-items.ensures.scenario (subst (λ (xs : List Announcement). c.loop-announcement.announcement-index < length xs) items c.loop-announcement-test.true)
    (c.announcement-item.is ∙ ap (λ (xs : List Announcement). get_or xs c.loop-announcement.announcement-index c.announcement-item.result) items)
    c.in_ok-path.ensures (c.loop-announcement.invariant ∙ ap (λ (xs : List Announcement). planned (take c.loop-announcement.announcement-index xs) []) items)

pub loop-announcement-preserved : goal.loop-announcement-preserved
loop-announcement-preserved c =
    let items = c.announcements-announcement-items.ensures.value in
    subst (λ (xs : List Announcement). c.announce.new.self ≡ planned (take (c.loop-announcement.announcement-index + 1) xs) []) (sym items)
    (announced_more c.args.scenario.now c.loop-announcement.announcement-index c.announcement-item.result c.in_ok-path.path c.loop-announcement.plan c.announce.new.self
    c.announcements-announcement-items.ensures.scenario (subst (λ (xs : List Announcement). c.loop-announcement.announcement-index < length xs) items c.loop-announcement-test.true)
    (c.announcement-item.is ∙ ap (λ (xs : List Announcement). get_or xs c.loop-announcement.announcement-index c.announcement-item.result) items)
    c.in_ok-path.ensures (c.loop-announcement.invariant ∙ ap (λ (xs : List Announcement). planned (take c.loop-announcement.announcement-index xs) []) items) c.in_ok-announce.ensures.ok)
