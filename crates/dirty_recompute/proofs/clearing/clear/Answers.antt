use Rattle.std.proofs.Common.{length, refl}
use Rattle.std.proofs.lemmas.Option.{slice_get_read}
use Rattle.dirty_recompute.proofs.ClearLemmas.{cleared_next, cleared_none, cleared_whole}
use Rattle.dirty_recompute.proofs.clearing.clear.Goals as goal

pub loop-place-init : goal.loop-place-init
loop-place-init c = cleared_none c.args.table.now c.args.overlay.now c.args.ases.now c.requires

pub loop-place-preserved : goal.loop-place-preserved
loop-place-preserved c =
    cleared_next c.args.table.now c.args.overlay.now c.loop-place.overlay c.clear_at.new.overlay c.loop-place.place c.args.ases.now c.index-ases-place.result
    (slice_get_read c.args.ases.now (length c.args.ases.now) c.loop-place.place c.index-ases-place.result refl c.loop-place-test.true c.index-ases-place.is)
    c.loop-place.invariant c.in_ok-clear_at.ensures

pub returns : goal.returns
returns c = cleared_whole c.args.table.now c.args.overlay.now c.loop-place.overlay c.loop-place.place c.args.ases.now c.loop-place-test.false c.loop-place.invariant
