use Rattle.std.proofs.Common.{◌≡◌, length, subst, refl, arith, take_all}
use Rattle.std.proofs.lemmas.Option.{slice_get_read}
use Rattle.stability_laws.proofs.PlanEdits.{IsAgain, announcements_are, again_none, again_more, again_all, some, short, new}
use Rattle.stability_laws.proofs.seed_plan.SeedPlan.without.Goals as goal

pub loop-one-init : goal.loop-one-init
loop-one-init c =
    let l = announcements_are c.self.inside.prefixes.items c.self.inside.announced.items c.self.inside.announcers.items c.self.inside.leakers.items c.self.inside.leaking.items c.self.invariant c.args.self.now c.self.view_is c.as_slice-one-items.result.now c.as_slice-one-items.ensures.value in
    again_none c.args.self.now c.args.prefix c.args.asn c.as_slice-one-items.result.now l c.in_ok-plan.plan c.in_ok-plan.ensures

pub announce_unless-requires-clause-some : goal.announce_unless-requires-clause-some
announce_unless-requires-clause-some c =
    let l = announcements_are c.self.inside.prefixes.items c.self.inside.announced.items c.self.inside.announcers.items c.self.inside.leakers.items c.self.inside.leaking.items c.self.invariant c.args.self.now c.self.view_is c.as_slice-one-items.result.now c.as_slice-one-items.ensures.value in
    some c.args.self.now c.args.prefix c.args.asn c.as_slice-one-items.result.now l c.loop-one.one-index c.one-item.result (slice_get_read c.as_slice-one-items.result.now (length c.as_slice-one-items.result.now) c.loop-one.one-index c.one-item.result refl c.loop-one-test.true c.one-item.is)

pub announce_unless-requires-clause-short : goal.announce_unless-requires-clause-short
announce_unless-requires-clause-short c =
    let l = announcements_are c.self.inside.prefixes.items c.self.inside.announced.items c.self.inside.announcers.items c.self.inside.leakers.items c.self.inside.leaking.items c.self.invariant c.args.self.now c.self.view_is c.as_slice-one-items.result.now c.as_slice-one-items.ensures.value in
    short c.args.self.now c.args.prefix c.args.asn c.as_slice-one-items.result.now l c.loop-one.one-index c.one-item.result (slice_get_read c.as_slice-one-items.result.now (length c.as_slice-one-items.result.now) c.loop-one.one-index c.one-item.result refl c.loop-one-test.true c.one-item.is)

pub announce_unless-requires-clause-new : goal.announce_unless-requires-clause-new
announce_unless-requires-clause-new c =
    let l = announcements_are c.self.inside.prefixes.items c.self.inside.announced.items c.self.inside.announcers.items c.self.inside.leakers.items c.self.inside.leaking.items c.self.invariant c.args.self.now c.self.view_is c.as_slice-one-items.result.now c.as_slice-one-items.ensures.value in
    new c.args.self.now c.args.prefix c.args.asn c.as_slice-one-items.result.now l c.loop-one.one-index c.one-item.result (slice_get_read c.as_slice-one-items.result.now (length c.as_slice-one-items.result.now) c.loop-one.one-index c.one-item.result refl c.loop-one-test.true c.one-item.is) c.loop-one.plan c.loop-one.invariant

pub loop-one-preserved : goal.loop-one-preserved
loop-one-preserved c =
    let l = announcements_are c.self.inside.prefixes.items c.self.inside.announced.items c.self.inside.announcers.items c.self.inside.leakers.items c.self.inside.leaking.items c.self.invariant c.args.self.now c.self.view_is c.as_slice-one-items.result.now c.as_slice-one-items.ensures.value in
    again_more c.args.self.now c.args.prefix c.args.asn c.as_slice-one-items.result.now l c.loop-one.one-index c.one-item.result (slice_get_read c.as_slice-one-items.result.now (length c.as_slice-one-items.result.now) c.loop-one.one-index c.one-item.result refl c.loop-one-test.true c.one-item.is) c.loop-one.plan c.loop-one.invariant c.announce_unless.new.plan c.in_ok-announce_unless.ensures

pub returns : goal.returns
returns c =
    let xs = c.as_slice-one-items.result.now in
    let l = announcements_are c.self.inside.prefixes.items c.self.inside.announced.items c.self.inside.announcers.items c.self.inside.leakers.items c.self.inside.leaking.items c.self.invariant c.args.self.now c.self.view_is c.as_slice-one-items.result.now c.as_slice-one-items.ensures.value in
    let end : c.loop-one.one-index ≡ length xs = omega (arith, c.loop-one-test.false, c.loop-one.auto.one-index-end) in
    again_all c.args.self.now c.args.prefix c.args.asn c.as_slice-one-items.result.now l c.loop-one.plan (subst (IsAgain c.args.self.now c.loop-one.plan c.args.prefix c.args.asn xs) end c.loop-one.invariant) (take_all (length xs) xs (omega arith))
