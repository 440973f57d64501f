use Rattle.std.proofs.Common.{ℕ, List, length, get_or, set, sym, ap, subst, arith}
use Rattle.std.proofs.lemmas.List.{length_push}
use Rattle.cycle_check.specs.Rows.{row, relation}
use Rattle.cycle_check.specs.Ways.{IsWay}
use Rattle.cycle_check.proofs.Ways.{first_way, leads_back, way_room, way_more}
use Rattle.cycle_check.proofs.Stages.{zeros}
use Rattle.cycle_check.proofs.way.way_down.Goals as goal

pub loop-seen-init : goal.loop-seen-init
loop-seen-init c =
    let W = λ (seen way : List ℕ). IsWay (relation c.args.starts.now c.args.items.now) c.args.counts.now seen way c.args.start in
    let first = first_way (relation c.args.starts.now c.args.items.now) c.args.counts.now c.args.start c.requires.start c.requires.left in
    subst (λ seen. W seen c.new-places.result.items) (sym c.in_ok-seen.ensures) (subst (λ way. W (zeros (length c.args.counts.now)) way) (sym c.new-places.ensures.items) first)

pub loop-seen-smaller : goal.loop-seen-smaller
loop-seen-smaller c =
    let places = c.loop-seen.places.items in
    let room = way_room (row c.args.starts.now c.args.items.now) c.args.counts.now c.loop-seen.seen.items places c.loop-seen.at c.loop-seen.invariant c.args.below.now c.requires.below c.index.result.now c.index.ensures c.loop-seen-test.true in
    omega (arith, room, length_push places c.loop-seen.at, ap length c.in_ok-push.ensures)

pub loop-seen-preserved : goal.loop-seen-preserved
loop-seen-preserved c =
    let seen = c.loop-seen.seen.items in
    let at = c.loop-seen.at in
    subst (λ xs. IsWay (relation c.args.starts.now c.args.items.now) c.args.counts.now (set seen at 1) xs (get_or c.args.below.now at 0)) (sym c.in_ok-push.ensures)
    (way_more (row c.args.starts.now c.args.items.now) c.args.counts.now seen c.loop-seen.places.items at c.loop-seen.invariant c.args.below.now c.requires.below c.index.result.now c.index.ensures c.loop-seen-test.true)

pub returns : goal.returns
returns c = leads_back (row c.args.starts.now c.args.items.now) c.args.counts.now c.loop-seen.seen.items c.loop-seen.places.items c.loop-seen.at c.loop-seen.invariant c.index.result.now c.index.ensures c.loop-seen-test.false
