use Rattle.std.proofs.Common.{arith, ◌<◌, refl, length}
use Rattle.std.proofs.lemmas.Option.{slice_get_read, slice_get_within}
use Rattle.dirty_recompute.proofs.CrowdLemmas.{filled_next, spot_read}
use Rattle.dirty_recompute.proofs.SpotLemmas.{none_has}
use Rattle.dirty_recompute.proofs.crowding.fill.Goals as goal

pub loop-key-init : goal.loop-key-init
loop-key-init c = record { ranked = λ rank was. was; all = λ rank was. none_has rank c.args.spots.now.items.items c.requires }

pub index-requires : goal.index-requires
index-requires c = let (s, got, same) = c.in-Some.ensures in let less : c.in-Some.at < length c.loop-key.spots.items.items = slice_get_within c.loop-key.spots.items.items c.in-Some.at s got in omega (arith, less, c.loop-key.spots.items.ok.0)

pub mark-requires : goal.mark-requires
mark-requires c = let (s, got, same) = c.in-Some.ensures in slice_get_within c.loop-key.spots.items.items c.in-Some.at s got

pub loop-key-preserved : goal.loop-key-preserved
loop-key-preserved c =
    let (s, got, same) = c.in-Some.ensures in
    filled_next c.args.spots.now.items.items c.loop-key.spots.items.items c.mark.new.self.items.items c.args.keys.now c.loop-key.key-index c.key-item.result c.in-Some.at s c.loop-key.spots.apart
    (slice_get_read c.args.keys.now (length c.args.keys.now) c.loop-key.key-index c.key-item.result refl c.loop-key-test.true c.key-item.is) got same
    (spot_read c.loop-key.spots.items.items c.in-Some.at s c.index.result.now got c.index.ensures c.if-index-rank.false) c.mark.ensures c.loop-key.invariant
