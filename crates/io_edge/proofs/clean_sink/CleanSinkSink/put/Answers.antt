use Rattle.std.proofs.Common.{◌≡◌, ◌≤◌, ◌-◌, ◌++◌, length, take, min, arith}
use Rattle.std.proofs.lemmas.List.{length-take-le}
use Rattle.io_edge.proofs.RoomLemmas.{take-fits, all_fits}
use Rattle.io_edge.proofs.clean_sink.CleanSinkSink.put.Goals as goal

pub returns-clause-kept : goal.returns-clause-kept
returns-clause-kept c =
    let old = c.self.inside in
    let within : length old.kept.items ≤ old.room = omega arith in
    let items : c.extend_from_slice.new.self.items ≡ old.kept.items ++ take (min (length c.args.piece.now) (old.room - length old.kept.items)) c.args.piece.now =
    grind (arith, c.extend_from_slice.ensures.items, c.extend_from_slice.ensures.succeeds, length-take-le) in
    let kept = take-fits old.room old.kept.items c.args.piece.now within in
    let whole = all_fits old.room old.kept.items c.args.piece.now within in
    rw (← c.self.view_is) cc
