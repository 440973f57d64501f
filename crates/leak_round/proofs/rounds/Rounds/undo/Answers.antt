use Rattle.std.proofs.Common.{◌∙◌, arith}
use Rattle.route_choice.proofs.Uses.{back_more}
use Rattle.leak_round.proofs.Closing.{holds_undone, announced_undone, full_undone, kept_undone}
use Rattle.leak_round.proofs.rounds.Rounds.undo.Goals as goal

pub invariant_of-self : goal.invariant_of-self
invariant_of-self c =
    let r = c.args.self.now in
    let held = holds_undone c.args.self.now c.args.plan c.requires c.undo_changes.new.pool c.drop_seeds.new.pool c.undo_changes.ensures.back c.drop_seeds.ensures.back c.undo_changes.ensures.holds c.drop_seeds.ensures.holds in
    record {
      announcements = announced_undone c.args.self.now c.args.plan c.requires c.undo_changes.new.pool c.drop_seeds.new.pool c.undo_changes.ensures.back c.drop_seeds.ensures.back c.undo_changes.ensures.holds c.drop_seeds.ensures.holds;
      own_seeds = r.own_seeds;
      full = full_undone c.args.self.now c.args.plan c.requires c.undo_changes.new.pool c.drop_seeds.new.pool c.undo_changes.ensures.back c.drop_seeds.ensures.back c.undo_changes.ensures.holds c.drop_seeds.ensures.holds;
      held = λ k. omega (arith, held k);
      closed = λ shut k. held k;
      limits = r.limits;
      few = r.few;
      cells = (back_more r.pool c.undo_changes.new.pool c.drop_seeds.new.pool c.undo_changes.ensures.back c.drop_seeds.ensures.back).limit ∙ r.cells;
    }

pub returns-clause-kept : goal.returns-clause-kept
returns-clause-kept c = kept_undone c.args.self.now c.args.plan c.requires c.undo_changes.new.pool c.drop_seeds.new.pool c.undo_changes.ensures.back c.drop_seeds.ensures.back c.undo_changes.ensures.holds c.drop_seeds.ensures.holds
