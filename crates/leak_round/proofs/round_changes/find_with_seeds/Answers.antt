use Rattle.std.proofs.Common.{◌≡◌, ◌++◌, ◌∷◌, [], List, sym, ap, subst, ◌∙◌}
use Rattle.stability_laws.specs.World.{setting_in}
use Rattle.leak_round.specs.declared.changes.Change.{Change}
use Rattle.leak_round.specs.Found.{IsAdded, IsCutOff, IsPaid}
use Rattle.leak_round.proofs.Paying.{cut_paid, cut_undone}
use Rattle.leak_round.proofs.Found.{added, paid_more}
use Rattle.leak_round.proofs.round_changes.find_with_seeds.Goals as goal

pub returns-in_err-overlay-clause-cut : goal.returns-in_err-overlay-clause-cut
returns-in_err-overlay-clause-cut g c = subst (IsCutOff c.args.pool.now c.changes_in_round.new.pool c.args.changes.now.items) (sym c.make_place.ensures.same) (cut_undone c.args.pool.now c.changes_in_round.new.pool c.args.changes.now.items c.in_err-overlay.ensures.err c.changes_in_round.ensures.limit)

pub returns : goal.returns
returns g c =
    let world = c.args.finding.now.world.now in
    let w = setting_in g.P.RoutePolicy.meaning g.V.OriginStates.state_of world in
    let old = c.args.changes.now.items in
    let x : Change = record { round = c.args.at.now.round; prefix = c.args.at.now.prefix; overlay = c.in_ok-overlay.overlay } in
    let roomed = c.changes_in_round.ensures.roomed in
    let found = c.in_ok-overlay.ensures.found roomed.was roomed.now roomed.was_at roomed.now_at in
    let items : c.add_change.new.changes.items ≡ old ++ x ∷ [] = c.add_change.ensures ∙ ap (λ (zs : List Change). zs ++ x ∷ []) c.make_place.ensures.same in
    let paid = paid_more (w c.args.at.now.prefix) world.graph.now c.args.edit.now.seeds.now c.args.edit.now.touched.now c.args.pool.now c.changes_in_round.new.pool roomed.was roomed.now c.args.steps.now c.changes_in_round.new.steps old x found in
    record {
      added = record { overlay = c.in_ok-overlay.overlay; items = items; roomed = roomed; found = found };
      more = subst (λ (zs : List Change). IsAdded old zs c.args.at.now.round c.args.at.now.prefix) (sym items) (added old x);
      paid = subst (λ (zs : List Change). IsPaid c.args.pool.now c.changes_in_round.new.pool old zs 1) (sym items) paid;
      cut = subst (λ (zs : List Change). IsCutOff c.args.pool.now c.changes_in_round.new.pool old zs) (sym items) (cut_paid c.args.pool.now c.changes_in_round.new.pool old (old ++ x ∷ []) 1 paid);
      same = c.changes_in_round.ensures.same;
    }
