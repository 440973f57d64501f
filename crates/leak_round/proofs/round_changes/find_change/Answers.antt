use Rattle.std.proofs.Common.{List, sym, subst, ◌∙◌}
use Rattle.route_choice.specs.declared.round_tables.RoundTables.{RoundTables}
use Rattle.leak_round.specs.Findings.{AreSeedsAfter, AreSeedsBefore, AreSeedsKept, AreWrongBy}
use Rattle.leak_round.proofs.NextTables.{next_can, next_found, next_live_after, next_live_before, next_none, next_same, next_there}
use Rattle.leak_round.proofs.Unchanged.{none_touched}
use Rattle.leak_round.proofs.round_changes.find_change.Given as given
use Rattle.leak_round.proofs.round_changes.find_change.Goals as goal
use Rattle.leak_round.proofs.round_changes.find_change.Goals.{After-as_slice-4}

pub seeds_and_wrong-requires-clause-from : goal.seeds_and_wrong-requires-clause-from
seeds_and_wrong-requires-clause-from g c = c.requires.turn.from

pub seeds_and_wrong-requires-clause-place : goal.seeds_and_wrong-requires-clause-place
seeds_and_wrong-requires-clause-place g c = c.requires.place

pub seeds_and_wrong-requires-clause-before : goal.seeds_and_wrong-requires-clause-before
seeds_and_wrong-requires-clause-before g c = λ seeds put.
    next_live_before c.requires seeds (subst (λ (ts : List RoundTables). AreSeedsBefore c.args.finding.now c.args.at.now ts seeds) c.as_slice-2.ensures.value put)

pub seeds_and_wrong-requires-clause-after : goal.seeds_and_wrong-requires-clause-after
seeds_and_wrong-requires-clause-after g c = λ seeds put.
    next_live_after c.requires seeds (coe 0 1 (i. AreSeedsAfter c.args.finding.now c.args.at.now (c.as_slice-2.ensures.value i) (c.as_slice-3.ensures.value i) seeds) put)

pub find_with_seeds-requires-clause-ranks : goal.find_with_seeds-requires-clause-ranks
find_with_seeds-requires-clause-ranks g c = c.requires.ranks

pub find_with_seeds-requires-clause-there : goal.find_with_seeds-requires-clause-there
find_with_seeds-requires-clause-there g c = next_there c.requires

-- the list has the ASes that may hold something wrong
wrong : (g : given.Over) (c : After-as_slice-4 g) → AreWrongBy c.args.finding.now c.args.at.now c.args.tables.now.items c.args.changes.now.items c.args.pool.now c.ids.result.now c.as_slice-4.result.now
wrong g c = coe 0 1 (i. AreWrongBy c.args.finding.now c.args.at.now (c.as_slice-2.ensures.value i) (c.as_slice-3.ensures.value i) c.args.pool.now (sym c.ids.ensures i) (sym c.as_slice-4.ensures.value i)) c.in_ok-seeds.ensures

pub find_with_seeds-requires-clause-can : goal.find_with_seeds-requires-clause-can
find_with_seeds-requires-clause-can g c = next_can c.requires c.ids.result.now c.as_slice-4.result.now (wrong g (goal.at.find_with_seeds-requires-clause-can g c).After-as_slice-4)

pub find_with_seeds-requires-clause-room : goal.find_with_seeds-requires-clause-room
find_with_seeds-requires-clause-room g c = c.requires.room

pub returns-clause-found : goal.returns-clause-found
returns-clause-found g c =
    let now = c.find_with_seeds.ensures in
    let new = c.find_with_seeds.new in
    next_found c.requires c.ids.result.now c.as_slice-4.result.now (wrong g (goal.at.returns-clause-found g c).After-as_slice-4) new.pool new.tables.items new.changes.items new.steps c.find_with_seeds.result now.same now.added now.more now.paid

pub seeds_and_wrong-requires-clause-kept : goal.seeds_and_wrong-requires-clause-kept
seeds_and_wrong-requires-clause-kept g c = λ yes seeds put.
    let x = c.args.finding.now in
    let at = c.args.at.now in
    let kept = subst (AreSeedsKept x at) c.as_slice.ensures.value (c.keeps_seeds-kept.ensures yes) in
    coe 1 0 (i. AreSeedsAfter x at (c.as_slice-2.ensures.value i) (c.as_slice-3.ensures.value i) seeds)
    (next_same c.requires kept seeds (subst (λ (ts : List RoundTables). AreSeedsBefore x at ts seeds) c.as_slice-2.ensures.value put))

pub returns-then-not-has_any-clause-found : goal.returns-then-not-has_any-clause-found
returns-then-not-has_any-clause-found g c =
    let x = c.args.finding.now in
    let at = c.args.at.now in
    let kept = subst (AreSeedsKept x at) c.as_slice.ensures.value (c.keeps_seeds-kept.ensures c.if-kept.true) in
    next_none c.requires kept (none_touched x.touched.now.pairs.items at.prefix (sym c.has_any.ensures ∙ c.if-not-has_any.true)) c.add_none.new.changes.items c.add_none.result c.add_none.ensures.added
