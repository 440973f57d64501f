use Rattle.std.proofs.Common.{◌<◌, ◌+◌, length, set, arith}
use Rattle.sim_core.specs.Watching.{seen_of}
use Rattle.sim_core.proofs.Renewals.{IsRoomed, IsSeen, next_worked}
use Rattle.sim_core.proofs.Working.{all_worked, map_worked, more_worked}
use Rattle.sim_core.proofs.renewing.make_room_in.Goals as goal

pub returns-in_err-room-clause-seen : goal.returns-in_err-room-clause-seen
returns-in_err-room-clause-seen c =
    let old = c.args.one.now.watches.items in
    let mid = c.loop-place.one.watches.items in
    let n = c.loop-place.place in
    let y = c.index_mut.result.now in
    let less : n < length mid = omega (arith, c.loop-place.invariant.count, c.len-place-end.ensures, c.loop-place-test.true) in
    let seen = more_worked (IsRoomed c.args.graph.now) IsSeen (λ u x p. p.0) old mid n c.loop-place.invariant in
    map_worked seen_of old (set mid n c.room.new.self) (n + 1) (next_worked IsSeen old mid n y c.room.new.self seen less c.index_mut.ensures.value (λ i. (c.room.ensures.addr i, c.room.ensures.rows i)))

pub loop-place-preserved : goal.loop-place-preserved
loop-place-preserved c =
    next_worked (IsRoomed c.args.graph.now) c.args.one.now.watches.items c.loop-place.one.watches.items c.loop-place.place c.index_mut.result.now c.room.new.self c.loop-place.invariant
    (omega (arith, c.loop-place.invariant.count, c.len-place-end.ensures, c.loop-place-test.true)) c.index_mut.ensures.value ((λ i. (c.room.ensures.addr i, c.room.ensures.rows i)), c.in_ok-room.ensures.spare)

pub returns-clause-seen : goal.returns-clause-seen
returns-clause-seen c =
    let old = c.args.one.now.watches.items in
    let new = c.loop-place.one.watches.items in
    map_worked seen_of old new c.loop-place.place (more_worked (IsRoomed c.args.graph.now) IsSeen (λ u x p. p.0) old new c.loop-place.place c.loop-place.invariant)

pub returns-clause-roomy : goal.returns-clause-roomy
returns-clause-roomy c place w at =
    (all_worked (IsRoomed c.args.graph.now) c.args.one.now.watches.items c.loop-place.one.watches.items c.loop-place.place c.loop-place.invariant (omega (arith, c.loop-place.invariant.count, c.len-place-end.ensures, c.loop-place-test.false)) place w at).2.1
