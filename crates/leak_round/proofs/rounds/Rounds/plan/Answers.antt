use Rattle.std.proofs.Common.{List, refl, sym, subst, ◌∙◌, arith}
use Rattle.std.specs.Option.{option_copied}
use Rattle.std.proofs.lemmas.Bool.{true≢false}
use Rattle.stability_laws.specs.World.{setting_in}
use Rattle.dirty_recompute.specs.Resources.{IsUndone}
use Rattle.leak_round.specs.declared.announced.Announced.{Announced}
use Rattle.leak_round.specs.Announced.{AreAnnounced}
use Rattle.leak_round.specs.Edited.{announced_after, prefix_edited, seeds_after, IsEdited}
use Rattle.leak_round.specs.OwnSeeds.{AreOwnSeeds, AreOthersKept}
use Rattle.leak_round.specs.Found.{CanFind, AreFoundUpTo}
use Rattle.leak_round.specs.Touched.{touches}
use Rattle.leak_round.proofs.Keeping.{announced_kept, keeps_on, rounds_full_kept}
use Rattle.leak_round.proofs.Opening.{few_laid, laid_differs, rounds_stable, steps_enough}
use Rattle.leak_round.proofs.Roomed.{kept_same, same_itself}
use Rattle.leak_round.proofs.Sizes.{changes_room, counts_few}
use Rattle.leak_round.proofs.Starting.{can_start, edited_kept, prefixes_stay}
use Rattle.leak_round.proofs.Undoing.{all_undone, announced_stay, full_stay, holds_stay, kept_stays}
use Rattle.leak_round.proofs.rounds.Rounds.plan.Given as given
use Rattle.leak_round.proofs.rounds.Rounds.plan.Goals as goal
use Rattle.leak_round.proofs.rounds.Rounds.plan.Goals.{After-drop_seeds}

pub edit_if_any-requires-clause-room : goal.edit_if_any-requires-clause-room
edit_if_any-requires-clause-room g c =
    let r = c.args.self.now in
    record {
      announced = subst (AreAnnounced r.pool r.plan) (sym c.deref-2.ensures.value) r.announcements;
      room = omega (arith, c.requires.few_cells, r.cells);
      counts = λ k. (let few = counts_few r.pool r.plan r.announced.items r.tables.items r.limits r.announcements r.full r.few (r.closed c.requires.closed) c.requires.few_cells k in omega (arith, few));
    }

pub find_and_tell-requires-clause-can : goal.find_and_tell-requires-clause-can
find_and_tell-requires-clause-can g c =
    let r = c.args.self.now in
    let w = setting_in g.P.RoutePolicy.meaning g.V.OriginStates.state_of c.args.world.now in
    let graph = c.args.world.now.graph.now in
    let touched = touches c.args.touched.now in
    let edited = c.in_ok-edited.edited in
    let next = c.edit_if_any.new.pool in
    let made = subst (λ (xs : List Announced). IsEdited r.pool next r.plan xs (option_copied c.args.edit) edited) c.deref-2.ensures.value c.in_ok-edited.ensures.made in
    record {
      ranks = c.requires.ranks;
      can = subst (λ (xs : List Announced). CanFind w graph touched r.plan (seeds_after edited r.plan) xs (announced_after edited xs) next r.tables.items) (sym c.as_slice.ensures.value)
          (can_start r.plan r.announced.items r.pool next r.limits r.announcements (option_copied c.args.edit) edited made w graph touched r.tables.items r.full (λ p b. refl) c.requires.announcers c.requires.entries c.requires.right);
      held = λ k. omega (arith, made.holds k, r.held k);
      few = r.few;
      room = changes_room r.pool r.plan r.announced.items r.tables.items r.limits r.announcements r.full r.few (r.closed c.requires.closed) c.requires.few_cells next (c.edit_if_any.ensures.limit ∙ r.cells) (omega (arith, made.cells, made.few)) made.counts;
    }

pub invariant_of-finding : goal.invariant_of-finding
invariant_of-finding g c =
    let r = c.args.self.now in
    record {
      no_cycle = c.requires.no_cycle;
      last = c.requires.last;
      own_seeds = coe 1 0 (i. AreOwnSeeds r.plan (c.as_slice.ensures.value i) (c.as_slice-2.ensures.value i)) (subst (λ (xs : List Announced). AreOwnSeeds r.plan xs c.fill_own_seeds.new.own.items) c.deref.ensures.value c.fill_own_seeds.ensures);
      fresh = c.in_ok-edited.ensures.made.own;
      others = subst (λ (xs : List Announced). AreOthersKept (prefix_edited c.in_ok-edited.edited) xs (announced_after c.in_ok-edited.edited xs)) (c.deref-2.ensures.value ∙ sym c.as_slice.ensures.value) c.in_ok-edited.ensures.made.others;
    }

pub invariant_of-self-in-Ok : goal.invariant_of-self-in-Ok
invariant_of-self-in-Ok g c =
    let r = c.args.self.now in
    let made = c.in_ok-edited.ensures.made in
    let next = c.edit_if_any.new.pool in
    let pool = c.find_and_tell.new.pool in
    let now = c.in-Ok.ensures in
    let all = now.found in
    let keeps = keeps_on r.pool next pool made.keeps all.paid.keeps in
    record {
      announcements = announced_kept r.pool pool keeps r.plan r.announced.items r.announcements;
      own_seeds = subst (λ (xs : List Announced). AreOwnSeeds r.plan xs c.fill_own_seeds.new.own.items) c.deref.ensures.value c.fill_own_seeds.ensures;
      full = now.same.full pool r.plan (rounds_full_kept r.pool pool keeps r.plan r.tables.items r.full);
      held = λ k. omega (arith, all.paid.holds k, made.holds k, r.closed c.requires.closed k, now.same.uses k);
      closed = λ shut. absurd (true≢false shut);
      limits = r.limits;
      few = omega (arith, r.few, now.same.count);
      cells = all.paid.grows.limit ∙ c.edit_if_any.ensures.limit ∙ r.cells;
    }

pub returns-in-Ok : goal.returns-in-Ok
returns-in-Ok g c =
    let r = c.args.self.now in
    let w = setting_in g.P.RoutePolicy.meaning g.V.OriginStates.state_of c.args.world.now in
    let graph = c.args.world.now.graph.now in
    let touched = touches c.args.touched.now in
    let edited = c.in_ok-edited.edited in
    let after = seeds_after edited r.plan in
    let next = c.edit_if_any.new.pool in
    let made = subst (λ (xs : List Announced). IsEdited r.pool next r.plan xs (option_copied c.args.edit) edited) c.deref-2.ensures.value c.in_ok-edited.ensures.made in
    let new = c.find_and_tell.new in
    let pool = new.pool in
    let now = c.in-Ok.ensures in
    let all = now.found in
    let keeps = keeps_on r.pool next pool made.keeps all.paid.keeps in
    let full = now.same.full pool r.plan (rounds_full_kept r.pool pool keeps r.plan r.tables.items r.full) in
    let more = subst (AreFoundUpTo r.plan new.changes.items) (sym now.same.count) all.whole in
    record {
      planned = record {
        «open» = record {
          planned = refl;
          holds = λ k. omega (arith, all.paid.holds k, made.holds k, r.closed c.requires.closed k, now.same.uses k);
          changes = all.found.changes;
          differs = laid_differs w graph touched r.plan after pool new.tables.items new.changes.items c.args.steps.now new.steps all.found more full;
          few = few_laid w graph touched r.plan after pool new.tables.items new.changes.items c.args.steps.now new.steps all.found more full (omega (arith, c.as_count-count.ensures.value, c.as_count-count.ensures.few)) (λ p b. refl);
          edited = edited_kept next pool r.plan edited all.paid.keeps made.seeds;
          others = made.others;
          own = made.own;
          count = now.count;
          told = λ round from to. now.told round from (omega (arith, to, now.same.count));
          cells = omega (arith, all.paid.cells, made.cells, now.count, c.live-before.ensures.value);
        };
        before = c.live-before.ensures.value;
        edited = made.plan_is;
        asn = made.asn_is;
        numbers = made.numbers_is;
        stable = rounds_stable w graph touched r.plan after pool new.tables.items new.changes.items c.args.steps.now new.steps all.found more full (prefixes_stay r.plan r.announced.items r.pool next r.limits r.announcements (option_copied c.args.edit) edited made);
        enough = steps_enough w graph touched r.plan after pool new.tables.items new.changes.items c.args.steps.now new.steps all.found more full;
      };
      stays = record {
        plan = refl;
        rounds = now.same.count;
        kept = kept_same r.plan r.pool pool r.tables.items new.tables.items keeps now.same r.full;
      };
      err = tt;
    }

pub undo_changes-requires : goal.undo_changes-requires
undo_changes-requires g c = λ k. omega (arith, c.find_and_tell.ensures.cut.holds k)

pub drop_seeds-requires : goal.drop_seeds-requires
drop_seeds-requires g c = λ k. omega (arith, c.undo_changes.ensures.holds k, c.find_and_tell.ensures.cut.holds k, c.in_ok-edited.ensures.made.holds k)

-- where no changes are found the pool is undone
pool_undone : (g : given.Over) (c : After-drop_seeds g) → IsUndone c.args.self.now.pool c.drop_seeds.new.pool
pool_undone g c =
    let made = c.in_ok-edited.ensures.made in
    all_undone c.args.self.now.pool c.edit_if_any.new.pool c.find_and_tell.new.pool c.undo_changes.new.pool c.drop_seeds.new.pool c.find_and_tell.new.changes.items c.in_ok-edited.edited made.keeps made.holds c.find_and_tell.ensures.cut c.undo_changes.ensures.back c.undo_changes.ensures.holds c.drop_seeds.ensures.back c.drop_seeds.ensures.holds

pub invariant_of-self-in-Err : goal.invariant_of-self-in-Err
invariant_of-self-in-Err g c =
    let r = c.args.self.now in
    let same = c.find_and_tell.ensures.same in
    let pool = c.drop_seeds.new.pool in
    let undone = pool_undone g (goal.at.invariant_of-self-in-Err g c).After-drop_seeds in
    let holds = holds_stay r.pool pool r.plan r.announced.items r.tables.items c.find_and_tell.new.tables.items undone same (r.closed c.requires.closed) in
    record {
      announcements = announced_stay r.pool pool r.plan r.announced.items r.tables.items c.find_and_tell.new.tables.items undone same (r.closed c.requires.closed) r.announcements;
      own_seeds = subst (λ (xs : List Announced). AreOwnSeeds r.plan xs c.fill_own_seeds.new.own.items) c.deref.ensures.value c.fill_own_seeds.ensures;
      full = full_stay r.pool pool r.plan r.announced.items r.tables.items c.find_and_tell.new.tables.items undone same (r.closed c.requires.closed) r.full;
      held = λ k. omega (arith, holds k);
      closed = λ shut k. holds k;
      limits = r.limits;
      few = omega (arith, r.few, same.count);
      cells = c.drop_seeds.ensures.back.limit ∙ c.undo_changes.ensures.back.limit ∙ c.find_and_tell.ensures.cut.limit ∙ c.edit_if_any.ensures.limit ∙ r.cells;
    }

pub returns-in-Err-clause-stays : goal.returns-in-Err-clause-stays
returns-in-Err-clause-stays g c =
    let r = c.args.self.now in
    record {
      plan = refl;
      rounds = c.find_and_tell.ensures.same.count;
      kept = kept_stays r.pool c.drop_seeds.new.pool r.plan r.announced.items r.tables.items c.find_and_tell.new.tables.items (pool_undone g (goal.at.returns-in-Err-clause-stays g c).After-drop_seeds) c.find_and_tell.ensures.same (r.closed c.requires.closed);
    }

pub invariant_of-self-in-Break-branch-3 : goal.invariant_of-self-in-Break-branch-3
invariant_of-self-in-Break-branch-3 g c =
    let r = c.args.self.now in
    let pool = c.edit_if_any.new.pool in
    let same = same_itself r.tables.items in
    let undone = c.in_err-edited.ensures.err in
    let holds = holds_stay r.pool pool r.plan r.announced.items r.tables.items r.tables.items undone same (r.closed c.requires.closed) in
    record {
      announcements = announced_stay r.pool pool r.plan r.announced.items r.tables.items r.tables.items undone same (r.closed c.requires.closed) r.announcements;
      own_seeds = subst (λ (xs : List Announced). AreOwnSeeds r.plan xs c.fill_own_seeds.new.own.items) c.deref.ensures.value c.fill_own_seeds.ensures;
      full = full_stay r.pool pool r.plan r.announced.items r.tables.items r.tables.items undone same (r.closed c.requires.closed) r.full;
      held = λ k. omega (arith, holds k);
      closed = λ shut k. holds k;
      limits = r.limits;
      few = omega (arith, r.few, same.count);
      cells = c.edit_if_any.ensures.limit ∙ r.cells;
    }

pub returns-in_err-edited-clause-stays : goal.returns-in_err-edited-clause-stays
returns-in_err-edited-clause-stays g c =
    let r = c.args.self.now in
    let pool = c.edit_if_any.new.pool in
    let same = same_itself r.tables.items in
    let undone = c.in_err-edited.ensures.err in
    record {
      plan = refl;
      rounds = refl;
      kept = kept_stays r.pool pool r.plan r.announced.items r.tables.items r.tables.items undone same (r.closed c.requires.closed);
    }

pub invariant_of-self : goal.invariant_of-self
invariant_of-self g c =
    let r = c.args.self.now in
    record {
      announcements = r.announcements;
      own_seeds = subst (λ (xs : List Announced). AreOwnSeeds r.plan xs c.fill_own_seeds.new.own.items) c.deref.ensures.value c.fill_own_seeds.ensures;
      full = r.full;
      held = r.held;
      closed = r.closed;
      limits = r.limits;
      few = r.few;
      cells = r.cells;
    }
