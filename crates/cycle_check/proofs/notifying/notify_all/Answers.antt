use Rattle.std.proofs.Common.{◌≡◌, ◌+◌, ◌≤◌, suc, [], length, take, drop, get_or, sym, ap, subst, arith, ◌∙◌, add-one}
use Rattle.std.proofs.lemmas.List.{get_or_read, drop_more, drop_all, length-take-le}
use Rattle.cycle_check.specs.Rows.{row, count_of}
use Rattle.cycle_check.specs.Stages.{IsStage, IsNotifying}
use Rattle.cycle_check.proofs.Regions.{item_within}
use Rattle.cycle_check.proofs.Stages.{order_few, head_inside, begun_stage, begun_notifying, waits_at, next_within, next_stage, next_notifying}
use Rattle.cycle_check.proofs.notifying.notify_all.Goals as goal

pub bounds-ranks-place : goal.bounds-ranks-place
bounds-ranks-place c =
    let order = c.args.order.now.items in
    let is = get_or_read order c.args.head c.index.result.now c.requires.head c.index.ensures 0 in
    let less = head_inside (row c.args.starts.now c.args.items.now) (count_of c.args.starts.now) c.args.counts.now c.args.ranks.now order c.args.head c.requires.head c.requires.stage in
    omega (arith, is, less, c.requires.ranks)

pub overflow_add-rank : goal.overflow_add-rank
overflow_add-rank c =
    let order = c.args.order.now.items in
    let small = c.requires.stage.small c.index.result.now in
    let long = length-take-le c.args.head order (omega arith) in
    let few = order_few (row c.args.starts.now c.args.items.now) (count_of c.args.starts.now) c.args.counts.now c.args.ranks.now order (take c.args.head order) [] c.requires.stage in
    omega (arith, small, long, few, c.requires.head, c.requires.rows.few, c.requires.rows.some)

pub row-provider-items-requires-clause-place : goal.row-provider-items-requires-clause-place
row-provider-items-requires-clause-place c =
    let order = c.args.order.now.items in
    let is = get_or_read order c.args.head c.index.result.now c.requires.head c.index.ensures 0 in
    let less = head_inside (row c.args.starts.now c.args.items.now) (count_of c.args.starts.now) c.args.counts.now c.args.ranks.now order c.args.head c.requires.head c.requires.stage in
    omega (arith, is, less)

pub loop-provider-init : goal.loop-provider-init
loop-provider-init c =
    let rows = row c.args.starts.now c.args.items.now in
    let n = count_of c.args.starts.now in
    let counts = c.args.counts.now in
    let ranks = c.args.ranks.now in
    let order = c.args.order.now.items in
    let head = c.args.head in
    let is = get_or_read order head c.index.result.now c.requires.head c.index.ensures 0 in
    let list : c.row-provider-items.result.now ≡ rows (get_or order head 0) = c.row-provider-items.ensures ∙ ap rows is in
    record {
      more = c.requires.head;
      stage = subst (λ xs. IsStage rows n counts ranks order (take (head + 1) order) xs) (sym list) (begun_stage rows n counts ranks order head c.requires.head c.requires.stage);
      notifying = subst (λ xs. IsNotifying rows ranks (take (head + 1) order) xs (get_or order head 0) (get_or ranks (get_or order head 0) 0)) (sym list) (begun_notifying rows n counts ranks order head c.requires.head c.requires.stage);
    }

pub notify-requires-clause-inside : goal.notify-requires-clause-inside
notify-requires-clause-inside c =
    let less = item_within c.args.starts.now c.args.items.now c.requires.rows c.row-provider-items.result.now c.index.result.now c.loop-provider.provider-index c.row-provider-items.ensures c.loop-provider-test.true in
    omega (arith, less, c.requires.counts, c.loop-provider.auto.counts)

pub notify-requires-clause-ranked : goal.notify-requires-clause-ranked
notify-requires-clause-ranked c =
    let less = item_within c.args.starts.now c.args.items.now c.requires.rows c.row-provider-items.result.now c.index.result.now c.loop-provider.provider-index c.row-provider-items.ensures c.loop-provider-test.true in
    omega (arith, less, c.requires.ranks, c.loop-provider.auto.ranks)

pub notify-requires-clause-waits : goal.notify-requires-clause-waits
notify-requires-clause-waits c =
    let xs = c.row-provider-items.result.now in
    let i = c.loop-provider.provider-index in
    let done = take (c.args.head + 1) c.loop-provider.order.items in
    let less = item_within c.args.starts.now c.args.items.now c.requires.rows xs c.index.result.now i c.row-provider-items.ensures c.loop-provider-test.true in
    waits_at (row c.args.starts.now c.args.items.now) (count_of c.args.starts.now) c.loop-provider.counts c.loop-provider.ranks c.loop-provider.order.items done xs i c.loop-provider-test.true c.loop-provider.invariant.stage less

pub loop-provider-preserved : goal.loop-provider-preserved
loop-provider-preserved c =
    let rows = row c.args.starts.now c.args.items.now in
    let n = count_of c.args.starts.now in
    let counts = c.loop-provider.counts in
    let ranks = c.loop-provider.ranks in
    let order = c.loop-provider.order.items in
    let xs = c.row-provider-items.result.now in
    let i = c.loop-provider.provider-index in
    let h = c.args.head + 1 in
    let done = take h order in
    let b = get_or c.args.order.now.items c.args.head 0 in
    let r = get_or c.args.ranks.now b 0 in
    let k = get_or c.args.ranks.now c.index.result.now 0 + 1 in
    let is = get_or_read c.args.order.now.items c.args.head c.index.result.now c.requires.head c.index.ensures 0 in
    let one_more = add-one (get_or c.args.ranks.now c.index.result.now 0) ∙ ap (λ x. suc (get_or c.args.ranks.now x 0)) is in
    let q = get_or xs i 0 in
    let rest = drop (i + 1) xs in
    let less = item_within c.args.starts.now c.args.items.now c.requires.rows xs c.index.result.now i c.row-provider-items.ensures c.loop-provider-test.true in
    let split = drop_more xs i 0 c.loop-provider-test.true in
    let stage = subst (λ v. IsStage rows n counts ranks order done v) split c.loop-provider.invariant.stage in
    let notifying = subst (λ v. IsNotifying rows ranks done v b r) split c.loop-provider.invariant.notifying in
    let within = c.loop-provider.invariant.more in
    let counted : length counts ≡ n = omega (arith, c.requires.counts, c.loop-provider.auto.counts) in
    let ranked : length ranks ≡ n = omega (arith, c.requires.ranks, c.loop-provider.auto.ranks) in
    let high : h ≤ length order = omega (arith, within) in
    let new_counts = c.notify.new.counts in
    let new_ranks = c.notify.new.ranks in
    let new_order = c.notify.new.order.items in
    let e = c.in_ok-notify.ensures in
    let longer = next_within rows n counts ranks order h q rest high stage less counted ranked b r notifying k one_more new_counts new_ranks new_order e.counts e.ranks e.order in
    record {
      more = omega (arith, longer);
      stage = next_stage rows n counts ranks order h q rest high stage less counted ranked b r notifying k one_more new_counts new_ranks new_order e.counts e.ranks e.order;
      notifying = next_notifying rows n counts ranks order h q rest high stage less counted ranked b r notifying k one_more new_counts new_ranks new_order e.counts e.ranks e.order;
    }

pub returns-clause-stage : goal.returns-clause-stage
returns-clause-stage c =
    let xs = c.row-provider-items.result.now in
    let order = c.loop-provider.order.items in
    let end = drop_all c.loop-provider.provider-index xs c.loop-provider-test.false in
    subst (λ v. IsStage (row c.args.starts.now c.args.items.now) (count_of c.args.starts.now) c.loop-provider.counts c.loop-provider.ranks order (take (c.args.head + 1) order) v) end c.loop-provider.invariant.stage
