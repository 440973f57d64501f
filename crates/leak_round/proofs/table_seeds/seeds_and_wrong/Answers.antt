use Rattle.std.proofs.Common.{refl}
use Rattle.leak_round.specs.Edited.{announced_after, seeds_after}
use Rattle.leak_round.specs.Touched.{touches}
use Rattle.leak_round.proofs.Owning.{wrong_between, wrong_touched}
use Rattle.leak_round.proofs.table_seeds.seeds_and_wrong.Goals as goal

pub returns-in-Some : goal.returns-in-Some
returns-in-Some g c =
    let x = c.args.finding.now in
    let at = c.args.at.now in
    wrong_touched x.plan.now (seeds_after x.edited.now x.plan.now) x.announced.now (announced_after x.edited.now x.announced.now) c.args.tables.now c.args.changes.now at.round at.prefix x.touched.now c.args.pool.now c.in-Some.seeds.now c.put_ases.new.ases.items c.in_ok-put_ases.ensures
    (c.in-Some.ensures x.announced.now (announced_after x.edited.now x.announced.now) c.args.tables.now c.args.changes.now x.own_seeds c.requires.place x.others)

pub put_wrong-requires-clause-old : goal.put_wrong-requires-clause-old
put_wrong-requires-clause-old g c =
    let x = c.args.finding.now in
    let found = c.in-Some-edited_seeds in
    c.requires.before found.before.now (found.ensures x.announced.now c.args.tables.now c.args.changes.now x.own_seeds c.requires.place x.fresh).0

pub put_wrong-requires-clause-new : goal.put_wrong-requires-clause-new
put_wrong-requires-clause-new g c =
    let x = c.args.finding.now in
    let found = c.in-Some-edited_seeds in
    c.requires.after found.seeds.now (found.ensures x.announced.now c.args.tables.now c.args.changes.now x.own_seeds c.requires.place x.fresh).1

pub returns-in-Some-edited_seeds : goal.returns-in-Some-edited_seeds
returns-in-Some-edited_seeds g c =
    let x = c.args.finding.now in
    let at = c.args.at.now in
    let found = c.in-Some-edited_seeds in
    let ases = c.put_wrong.new.ases.items in
    wrong_between x.plan.now (seeds_after x.edited.now x.plan.now) x.announced.now (announced_after x.edited.now x.announced.now) c.args.tables.now c.args.changes.now at.round at.prefix (touches x.touched.now at.prefix) c.args.pool.now found.before.now found.seeds.now ases ases refl
    (found.ensures x.announced.now c.args.tables.now c.args.changes.now x.own_seeds c.requires.place x.fresh) c.in_ok-put_wrong.ensures

pub returns-then-kept : goal.returns-then-kept
returns-then-kept g c =
    let x = c.args.finding.now in
    let at = c.args.at.now in
    let seeds = c.in_ok-before.before in
    wrong_touched x.plan.now (seeds_after x.edited.now x.plan.now) x.announced.now (announced_after x.edited.now x.announced.now) c.args.tables.now c.args.changes.now at.round at.prefix x.touched.now c.args.pool.now seeds c.put_ases-then-kept.new.ases.items c.in_ok-put_ases-2.ensures
    (c.in_ok-before.ensures, c.requires.kept c.if-kept.true seeds c.in_ok-before.ensures)

pub put_wrong-requires-2-clause-old : goal.put_wrong-requires-2-clause-old
put_wrong-requires-2-clause-old g c = c.requires.before c.in_ok-before.before c.in_ok-before.ensures

pub put_wrong-requires-2-clause-new : goal.put_wrong-requires-2-clause-new
put_wrong-requires-2-clause-new g c = c.requires.after c.in_ok-seeds.seeds c.in_ok-seeds.ensures

pub returns : goal.returns
returns g c = record { was = c.in_ok-before.before; was_put = c.in_ok-before.ensures; put = c.in_ok-seeds.ensures; wrong = c.in_ok-put_wrong-2.ensures }
