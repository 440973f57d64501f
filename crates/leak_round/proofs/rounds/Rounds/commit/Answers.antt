use Rattle.std.proofs.Common.{◌≡◌, ℕ, List, sym, ap, subst, ◌∙◌, arith}
use Rattle.stability_laws.specs.Plans.{Plan}
use Rattle.stability_laws.proofs.KeyLists.{keys_listed}
use Rattle.net_names.specs.Orders.{prefix_total, exact_prefix}
use Rattle.route_choice.proofs.Uses.{back_more}
use Rattle.leak_round.specs.declared.announced.Announced.{Announced}
use Rattle.leak_round.specs.Announced.{announced_uses, AreAnnounced}
use Rattle.leak_round.specs.Edited.{announced_after}
use Rattle.leak_round.specs.Limits.{IsWithinLimits}
use Rattle.leak_round.specs.Plans.{kept_with}
use Rattle.leak_round.specs.Tables.{kept_in, AreRoundsFull}
use Rattle.leak_round.proofs.Closing.{prefixes_taken, limits_taken, others, laid_first, enough_first, holds_done, announced_done, full_done, kept_done, has_changes}
use Rattle.leak_round.proofs.rounds.Rounds.commit.Goals as goal

pub take_seeds-requires-clause-held : goal.take_seeds-requires-clause-held
take_seeds-requires-clause-held c = enough_first c.args.self.now c.args.plan c.requires c.commit_changes.new.pool c.commit_changes.new.tables.items (c.commit_changes.ensures.laid c.args.self.now.plan (kept_with c.args.self.now c.args.plan) (others c.args.self.now c.args.plan c.requires) (keys_listed prefix_total exact_prefix c.args.self.now.plan.prefixes) c.requires.few (laid_first c.args.self.now c.args.plan c.requires))

pub take_seeds-requires-clause-prefixes : goal.take_seeds-requires-clause-prefixes
take_seeds-requires-clause-prefixes c = prefixes_taken c.args.self.now.pool c.args.self.now.plan c.args.self.now.announced.items c.args.self.now.limits c.args.self.now.announcements c.args.plan.edited c.requires.edited

pub take_seeds-requires-clause-others : goal.take_seeds-requires-clause-others
take_seeds-requires-clause-others c = c.requires.others

pub take_seeds-requires-clause-fresh : goal.take_seeds-requires-clause-fresh
take_seeds-requires-clause-fresh c = c.requires.own

pub invariant_of-self : goal.invariant_of-self
invariant_of-self c =
    let r = c.args.self.now in
    let pool = c.take_seeds.new.pool in
    let seeds = c.take_seeds.ensures in
    let held = holds_done c.args.self.now c.args.plan c.requires c.commit_changes.new.pool c.take_seeds.new.pool c.commit_changes.new.tables.items (c.commit_changes.ensures.laid c.args.self.now.plan (kept_with c.args.self.now c.args.plan) (others c.args.self.now c.args.plan c.requires) (keys_listed prefix_total exact_prefix c.args.self.now.plan.prefixes) c.requires.few (laid_first c.args.self.now c.args.plan c.requires)) c.commit_changes.ensures.back c.take_seeds.ensures.back c.take_seeds.ensures.holds in
    let uses : (k : ℕ) → announced_uses c.take_seeds.new.announced.items k ≡ announced_uses (announced_after c.args.plan.edited r.announced.items) k = λ k. ap (λ (xs : List Announced). announced_uses xs k) seeds.announced in
    record {
      announcements = coe 1 0 (i. AreAnnounced pool (seeds.plan i) (seeds.announced i)) (announced_done c.args.self.now c.args.plan c.requires c.commit_changes.new.pool c.take_seeds.new.pool c.commit_changes.new.tables.items (c.commit_changes.ensures.laid c.args.self.now.plan (kept_with c.args.self.now c.args.plan) (others c.args.self.now c.args.plan c.requires) (keys_listed prefix_total exact_prefix c.args.self.now.plan.prefixes) c.requires.few (laid_first c.args.self.now c.args.plan c.requires)) c.commit_changes.ensures.back c.take_seeds.ensures.back c.take_seeds.ensures.holds);
      own_seeds = seeds.own;
      full = subst (λ (q : Plan). AreRoundsFull pool q c.commit_changes.new.tables.items) (sym seeds.plan) (full_done c.args.self.now c.args.plan c.requires c.commit_changes.new.pool c.take_seeds.new.pool c.commit_changes.new.tables.items (c.commit_changes.ensures.laid c.args.self.now.plan (kept_with c.args.self.now c.args.plan) (others c.args.self.now c.args.plan c.requires) (keys_listed prefix_total exact_prefix c.args.self.now.plan.prefixes) c.requires.few (laid_first c.args.self.now c.args.plan c.requires)) c.commit_changes.ensures.back c.take_seeds.ensures.back c.take_seeds.ensures.holds);
      held = λ k. omega (arith, held k, uses k);
      closed = λ shut k. omega (arith, held k, uses k);
      limits = subst IsWithinLimits (sym seeds.plan) (limits_taken c.args.self.now.pool c.args.self.now.plan c.args.self.now.announced.items c.args.self.now.limits c.args.self.now.announcements c.args.plan.edited c.requires.edited);
      few = omega (arith, r.few, c.commit_changes.ensures.count);
      cells = (back_more r.pool c.commit_changes.new.pool pool c.commit_changes.ensures.back seeds.back).limit ∙ r.cells;
    }

pub returns-clause-kept : goal.returns-clause-kept
returns-clause-kept c = kept_done c.args.self.now c.args.plan c.requires c.commit_changes.new.pool c.take_seeds.new.pool c.commit_changes.new.tables.items (c.commit_changes.ensures.laid c.args.self.now.plan (kept_with c.args.self.now c.args.plan) (others c.args.self.now c.args.plan c.requires) (keys_listed prefix_total exact_prefix c.args.self.now.plan.prefixes) c.requires.few (laid_first c.args.self.now c.args.plan c.requires)) c.commit_changes.ensures.back c.take_seeds.ensures.back c.take_seeds.ensures.holds

pub returns-clause-count : goal.returns-clause-count
returns-clause-count c =
    has_changes c.args.self.now c.args.plan c.requires c.take_seeds.new.plan _ (ap (λ (q : Plan). q.prefixes) c.take_seeds.ensures.plan ∙ prefixes_taken c.args.self.now.pool c.args.self.now.plan c.args.self.now.announced.items c.args.self.now.limits c.args.self.now.announcements c.args.plan.edited c.requires.edited) c.commit_changes.ensures.count
    (kept_in c.take_seeds.new.pool c.commit_changes.new.tables.items) (kept_done c.args.self.now c.args.plan c.requires c.commit_changes.new.pool c.take_seeds.new.pool c.commit_changes.new.tables.items (c.commit_changes.ensures.laid c.args.self.now.plan (kept_with c.args.self.now c.args.plan) (others c.args.self.now c.args.plan c.requires) (keys_listed prefix_total exact_prefix c.args.self.now.plan.prefixes) c.requires.few (laid_first c.args.self.now c.args.plan c.requires)) c.commit_changes.ensures.back c.take_seeds.ensures.back c.take_seeds.ensures.holds)
