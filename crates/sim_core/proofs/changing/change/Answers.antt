use Rattle.std.proofs.Common.{◌≡◌, ◌<◌, ℕ, length, map, unwrap_or, sym, ap, subst, ◌∙◌, arith}
use Rattle.std.specs.Option.{option_copied}
use Rattle.std.proofs.lemmas.Option.{slice_get_within}
use Rattle.as_graph.specs.Hierarchy.{IsRank}
use Rattle.as_graph.specs.Topology.{relation}
use Rattle.stability_laws.specs.Plans.{IsSound, Plan, announces}
use Rattle.leak_round.specs.Changes.{HasChanges}
use Rattle.leak_round.specs.Edited.{plan_edited}
use Rattle.leak_round.specs.Plans.{ases_told, kept_with, plan_after}
use Rattle.leak_round.specs.Rounds.{kept, plan_of, round_count}
use Rattle.leak_round.specs.Touched.{touches}
use Rattle.sim_core.specs.Families.{Family}
use Rattle.sim_core.specs.Ground.{Ground, ground_in}
use Rattle.sim_core.specs.Watching.{AreRoundWatches, seen_in}
use Rattle.sim_core.proofs.Grounds.{can_follow, no_entry, no_rank, not_told, only_rounds, plan_quick, rounds_as, seeds_elsewhere, seeds_prefixes, still_fits, still_right}
use Rattle.sim_core.proofs.Hops.{goes_on_inside}
use Rattle.sim_core.proofs.Watches.{seen_addrs}
use Rattle.sim_core.proofs.changing.change.Goals as goal

pub returns-in_err-make_room-clause-addrs : goal.returns-in_err-make_room-clause-addrs
returns-in_err-make_room-clause-addrs g c = seen_addrs c.args.watches.now.items c.make_room.new.all.items c.make_room.ensures.seen

pub plan_ranks-requires-clause-fits : goal.plan_ranks-requires-clause-fits
plan_ranks-requires-clause-fits g c =
    let (old, belong, differs) = c.requires.from in
    still_fits old (ground_in c.args.world.now) c.args.ranks.now c.args.rounds.now c.args.watches.now.items c.args.difference.now.ends.now (touches c.args.difference.now.touched.now) belong differs c.change_laws.ensures.fit

pub plan_ranks-requires-clause-only : goal.plan_ranks-requires-clause-only
plan_ranks-requires-clause-only g c =
    let (old, belong, differs) = c.requires.from in
    no_rank old (ground_in c.args.world.now) c.args.ranks.now c.args.rounds.now c.args.watches.now.items c.args.difference.now.ends.now (touches c.args.difference.now.touched.now) belong differs c.change_laws.ensures.fit c.change_laws.ensures.sound

pub returns-in_err-rank_plan-clause-addrs : goal.returns-in_err-rank_plan-clause-addrs
returns-in_err-rank_plan-clause-addrs g c = seen_addrs c.args.watches.now.items c.make_room.new.all.items c.make_room.ensures.seen

pub plan-requires : goal.plan-requires
plan-requires g c =
    let (old, belong, differs) = c.requires.from in
    let seeds = c.requires.seeds in
    record {
      closed = c.requires.closed;
      few_cells = c.requires.few_cells;
      no_cycle = c.requires.no_cycle;
      last = c.in_ok-rank_plan.ensures.plan;
      ranks = c.in_ok-rank_plan.ensures.ranks;
      can_edit = λ e is. record { known = seeds.known e is; within = seeds.within e is; limits = seeds.limits e is };
      announcers = seeds.announcers;
      entries = no_entry old (ground_in c.args.world.now) c.args.ranks.now c.args.rounds.now c.args.watches.now.items c.args.difference.now.ends.now (touches c.args.difference.now.touched.now) belong differs;
      right = still_right old (ground_in c.args.world.now) c.args.ranks.now c.args.rounds.now c.args.watches.now.items c.args.difference.now.ends.now (touches c.args.difference.now.touched.now) belong differs c.change_laws.ensures.follows c.change_laws.ensures.by_offers c.change_laws.ensures.offer c.change_laws.ensures.go_on (subst IsSound c.seed_plan.ensures c.plans_are_sound.ensures);
    }

pub returns-in_err-plan-clause-addrs : goal.returns-in_err-plan-clause-addrs
returns-in_err-plan-clause-addrs g c = seen_addrs c.args.watches.now.items c.make_room.new.all.items c.make_room.ensures.seen

pub renew-requires-clause-inside : goal.renew-requires-clause-inside
renew-requires-clause-inside g c =
    let new : Ground = ground_in c.args.world.now in
    let rounds = c.commit-done.new.self in
    let stable = rounds_as new (plan_after c.plan.new.self c.in_ok-plan.plan) (plan_of rounds) (round_count c.plan.new.self) (round_count rounds) (kept_with c.plan.new.self c.in_ok-plan.plan) (kept rounds) c.commit-done.ensures.plan c.commit-done.ensures.rounds c.commit-done.ensures.kept c.in_ok-plan.ensures.planned.stable in
    let sound : IsSound (plan_of rounds) = subst IsSound c.seed_plan-2.ensures c.plans_are_sound-2.ensures in
    goes_on_inside c.change_laws.ensures.go_on c.args.world.now.graph.now c.args.world.now.book.now c.args.world.now.states.now (plan_of rounds) (round_count rounds) (kept rounds) sound stable

pub renew-requires-clause-follow : goal.renew-requires-clause-follow
renew-requires-clause-follow g c =
    let new : Ground = ground_in c.args.world.now in
    let (old, belong, differs) = c.requires.from in
    let rounds = c.commit-done.new.self in
    let was = c.args.rounds.now in
    let edit = option_copied c.args.difference.now.edit in
    let plan : plan_of rounds ≡ plan_edited edit (plan_of was) = c.commit-done.ensures.plan ∙ c.in_ok-plan.ensures.planned.edited in
    let count : round_count rounds ≡ round_count was = c.commit-done.ensures.rounds ∙ c.plan.ensures.stays.rounds in
    let items = map seen_in c.make_room.new.all.items in
    can_follow old new was (plan_of was) (plan_of rounds) (round_count was) (kept was) (kept rounds) (ases_told c.commit-done.result) c.args.difference.now.ends.now (touches c.args.difference.now.touched.now) differs
    (ap (λ (p : Plan). p.prefixes) plan ∙ seeds_prefixes (plan_of was) c.args.world.now.graph.now c.args.difference.now.ends.now edit c.requires.seeds)
    (λ a other p. ap (λ (q : Plan). announces q p a) plan ∙ seeds_elsewhere (plan_of was) c.args.world.now.graph.now c.args.difference.now.ends.now edit c.requires.seeds a other p)
    (λ round a low high still p.
    c.commit-done.ensures.kept round p a
    ∙ not_told c.plan.new.self c.in_ok-plan.plan round a (ases_told c.commit-done.result round) (c.commit-done.ensures.told round low (omega (arith, high, count))) still p
    ∙ c.plan.ensures.stays.kept round p a)
    items (subst (AreRoundWatches old.graph (plan_of was) (kept was) old.book (round_count was)) (sym c.make_room.ensures.seen) belong.watching)
    (λ before seen at. (let within : before < length items = slice_get_within items before seen at in omega (arith, within, ap length c.make_room.ensures.seen, belong.watching.count)))

pub returns-clause-belong : goal.returns-clause-belong
returns-clause-belong g c =
    let new : Ground = ground_in c.args.world.now in
    let rounds = c.commit-done.new.self in
    let stable = rounds_as new (plan_after c.plan.new.self c.in_ok-plan.plan) (plan_of rounds) (round_count c.plan.new.self) (round_count rounds) (kept_with c.plan.new.self c.in_ok-plan.plan) (kept rounds) c.commit-done.ensures.plan c.commit-done.ensures.rounds c.commit-done.ensures.kept c.in_ok-plan.ensures.planned.stable in
    record {
      no_cycle = c.requires.no_cycle;
      ranks_are = λ a. subst (IsRank (relation c.args.world.now.graph.now) a) (sym (ap (λ o. unwrap_or o 0) (c.commit.ensures a))) (c.in_ok-rank_plan.ensures.ranks a);
      rounds_are = only_rounds c.change_laws.ensures.one new rounds c.requires.no_cycle stable;
      watching = c.renew.ensures.rows;
    }

pub returns-clause-changed : goal.returns-clause-changed
returns-clause-changed g c =
    let rounds = c.commit-done.new.self in
    subst (λ (t : Family × ℕ). HasChanges (plan_of rounds) (round_count rounds) t.0 (kept rounds) t.1) (λ i. ((λ r p a. c.plan.ensures.stays.kept r p a i), sym c.count.ensures i)) c.commit-done.ensures.count

pub returns-clause-addrs : goal.returns-clause-addrs
returns-clause-addrs g c = c.renew.ensures.addrs ∙ seen_addrs c.args.watches.now.items c.make_room.new.all.items c.make_room.ensures.seen

pub returns-clause-quick : goal.returns-clause-quick
returns-clause-quick g c =
    plan_quick (relation c.args.world.now.graph.now) c.args.rounds.now c.plan.new.self c.commit-done.new.self c.in_ok-plan.plan (touches c.args.difference.now.touched.now) c.args.steps.now c.plan.new.steps c.in_ok-plan.ensures.planned.open c.in_ok-plan.ensures.planned.enough
    c.plan.ensures.stays.plan c.commit-done.ensures.plan c.plan.ensures.stays.rounds c.plan.ensures.stays.kept c.commit-done.ensures.kept
