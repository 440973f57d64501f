use Rattle.std.proofs.Common.{◌-◌, ◌&&◌, nat_lt, [], refl, sym, ap, subst, ◌∙◌}
use Rattle.stability_laws.specs.Plans.{announced_path, leaks_in}
use Rattle.stability_laws.specs.Rounds.{seed_given}
use Rattle.leak_round.specs.Leaked.{AreSeedsWith}
use Rattle.leak_round.specs.SeedPaths.{HaveAtMost}
use Rattle.leak_round.proofs.Laying.{kept_is}
use Rattle.leak_round.proofs.Seeding.{held_of-live, seeds_are, seeds_live}
use Rattle.leak_round.proofs.rounds.Rounds.seeds.Goals as goal

pub seeds_out-requires : goal.seeds_out-requires
seeds_out-requires c =
    let r = c.args.self.now in
    let put = coe 0 1 (i. AreSeedsWith r.plan (c.as_slice-announced.ensures.value i) (c.as_slice-tables.ensures.value i) [] c.args.round c.args.prefix c.in_ok-ids.ids) c.in_ok-ids.ensures in
    seeds_live r.pool r.plan r.announced.items r.tables.items [] c.args.round c.args.prefix c.in_ok-ids.ids put r.announcements
    (λ a h e. held_of-live r.pool r.plan r.tables.items r.full (c.args.round - 1) c.args.prefix a h e)

pub returns-clause-seeds : goal.returns-clause-seeds
returns-clause-seeds c = λ a.
    let r = c.args.self.now in
    let round = c.args.round in
    let put = coe 0 1 (i. AreSeedsWith r.plan (c.as_slice-announced.ensures.value i) (c.as_slice-tables.ensures.value i) [] round c.args.prefix c.in_ok-ids.ids) c.in_ok-ids.ensures in
    c.in_ok-seeds.ensures.seeds a
    ∙ seeds_are r.pool r.plan r.announced.items r.tables.items [] round c.args.prefix c.in_ok-ids.ids put r.announcements (λ b. refl) c.requires.known a
    ∙ ap (seed_given (announced_path r.plan c.args.prefix a) (nat_lt 1 round && leaks_in r.plan round a)) (sym (kept_is r.pool r.tables.items (round - 1) c.args.prefix a))

pub returns-clause-short : goal.returns-clause-short
returns-clause-short c = subst (λ most. HaveAtMost most c.in_ok-seeds.seeds) c.args.self.now.cells c.in_ok-seeds.ensures.short
