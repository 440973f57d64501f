use Rattle.std.proofs.Common.{◌<◌, ◌+◌, length, set, arith}
use Rattle.sim_core.specs.Watching.{seen_in}
use Rattle.sim_core.proofs.Renewals.{AreRoomed, AreSeen, next_worked}
use Rattle.sim_core.proofs.Working.{all_worked, map_worked, more_worked}
use Rattle.sim_core.proofs.renewing.make_room.Goals as goal

pub returns-in_err-make_room_in-clause-seen : goal.returns-in_err-make_room_in-clause-seen
returns-in_err-make_room_in-clause-seen c =
    let old = c.args.all.now.items in
    let mid = c.loop-place.all.items in
    let n = c.loop-place.place in
    let y = c.index_mut.result.now in
    let less : n < length mid = omega (arith, c.loop-place.invariant.count, c.len-place-end.ensures, c.loop-place-test.true) in
    let seen = more_worked (AreRoomed c.args.graph.now) AreSeen (λ u x p. p.0) old mid n c.loop-place.invariant in
    map_worked seen_in old (set mid n c.make_room_in.new.one) (n + 1) (next_worked AreSeen old mid n y c.make_room_in.new.one seen less c.index_mut.ensures.value c.make_room_in.ensures.seen)

pub loop-place-preserved : goal.loop-place-preserved
loop-place-preserved c =
    next_worked (AreRoomed c.args.graph.now) c.args.all.now.items c.loop-place.all.items c.loop-place.place c.index_mut.result.now c.make_room_in.new.one c.loop-place.invariant
    (omega (arith, c.loop-place.invariant.count, c.len-place-end.ensures, c.loop-place-test.true)) c.index_mut.ensures.value (c.make_room_in.ensures.seen, c.in_ok-make_room_in.ensures.roomy)

pub returns-clause-seen : goal.returns-clause-seen
returns-clause-seen c =
    let old = c.args.all.now.items in
    let new = c.loop-place.all.items in
    map_worked seen_in old new c.loop-place.place (more_worked (AreRoomed c.args.graph.now) AreSeen (λ u x p. p.0) old new c.loop-place.place c.loop-place.invariant)

pub returns-clause-roomy : goal.returns-clause-roomy
returns-clause-roomy c before one at =
    (all_worked (AreRoomed c.args.graph.now) c.args.all.now.items c.loop-place.all.items c.loop-place.place c.loop-place.invariant (omega (arith, c.loop-place.invariant.count, c.len-place-end.ensures, c.loop-place-test.false)) before one at).2.1
