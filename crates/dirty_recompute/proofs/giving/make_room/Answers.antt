use Rattle.std.proofs.Common.{arith, refl}
use Rattle.route_choice.proofs.Room.{keeps_itself}
use Rattle.dirty_recompute.proofs.RoomLemmas.{same_held, same_kept}
use Rattle.dirty_recompute.proofs.giving.make_room.Goals as goal

pub returns-in_err-room_over-clause-kept : goal.returns-in_err-room_over-clause-kept
returns-in_err-room_over-clause-kept c = λ seeds live. record { keeps = keeps_itself c.args.pool.now seeds; holds = λ k. omega (arith, c.room_over.ensures.uses k); limit = refl }

pub returns-in_err-reserve_cell-clause-same : goal.returns-in_err-reserve_cell-clause-same
returns-in_err-reserve_cell-clause-same c = λ table held. same_held c.args.pool.now c.reserve_cell.new.pool table c.args.overlay.now c.room_over.new.self held c.reserve_cell.ensures.same c.room_over.ensures.same

pub returns-in_err-reserve_cell-clause-kept : goal.returns-in_err-reserve_cell-clause-kept
returns-in_err-reserve_cell-clause-kept c = λ seeds live.
    same_kept c.args.pool.now c.reserve_cell.new.pool seeds c.args.overlay.now c.room_over.new.self live c.reserve_cell.ensures.same c.reserve_cell.ensures.limit c.room_over.ensures.uses

pub returns-clause-can : goal.returns-clause-can
returns-clause-can c = λ seeds table can. record {
  changes = record {
    held = λ k. omega (arith, can.held k, c.reserve_cell.ensures.same.holds k, c.room_over.ensures.uses k);
    seeds_live = λ a s e. c.reserve_cell.ensures.same.stays_live s.path.0 (can.seeds_live a s e);
    spare = omega (arith, c.in_ok-reserve_cell.ensures.room);
    counts = λ k. omega (arith, can.counts k, c.reserve_cell.ensures.same.counts k);
  };
  room = c.in_ok-room_over.ensures.room;
}

pub returns-clause-same : goal.returns-clause-same
returns-clause-same c = λ table held. same_held c.args.pool.now c.reserve_cell.new.pool table c.args.overlay.now c.room_over.new.self held c.reserve_cell.ensures.same c.room_over.ensures.same

pub returns-clause-kept : goal.returns-clause-kept
returns-clause-kept c = λ seeds live.
    same_kept c.args.pool.now c.reserve_cell.new.pool seeds c.args.overlay.now c.room_over.new.self live c.reserve_cell.ensures.same c.reserve_cell.ensures.limit c.room_over.ensures.uses
