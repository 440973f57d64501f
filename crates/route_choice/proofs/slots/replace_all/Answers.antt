use Rattle.std.proofs.Common.{arith, ◌+◌, ◌≤◌, length, sym, ◌∙◌}
use Rattle.route_choice.specs.Slots.{entry_at, slot_at}
use Rattle.route_choice.proofs.Uses.{has_place, is_before-all, missing_from, missing_from-more, replacing_more}
use Rattle.route_choice.proofs.slots.replace_all.Goals as goal

pub replace-requires-clause-room : goal.replace-requires-clause-room
replace-requires-clause-room c =
    let now = c.loop-place.slots in
    let rest = missing_from-more now c.args.changes.now c.loop-place.place c.in-Some.pair.0 c.in-Some.pair.1 (sym c.in-Some.ensures.entry) in
    has_place now.spare (missing_from now c.args.changes.now (c.loop-place.place + 1)) (slot_at now c.in-Some.pair.0) (omega (arith, rest, c.loop-place.invariant.room))

pub loop-place-preserved : goal.loop-place-preserved
loop-place-preserved c =
    replacing_more c.args.slots.now c.loop-place.slots c.replace.new.slots c.args.changes.now c.args.pool.now c.loop-place.pool c.replace.new.pool
    c.loop-place.place c.in-Some.pair.0 c.in-Some.pair.1 c.loop-place.invariant (sym c.in-Some.ensures.entry) c.in-Some.ensures.value
    c.replace.ensures.this c.replace.ensures.others c.replace.ensures.holds c.replace.ensures.back c.replace.ensures.spare c.replace.ensures.kept_spare

pub returns-clause-entries : goal.returns-clause-entries
returns-clause-entries c = λ a.
    let past : length c.args.changes.now.entries ≤ c.loop-place.place = omega (arith, c.loop-place-test.false, c.len-place-end.ensures.count) in
    c.loop-place.invariant.entries a ∙ is_before-all c.args.changes.now c.loop-place.place a (entry_at c.args.slots.now a) past
