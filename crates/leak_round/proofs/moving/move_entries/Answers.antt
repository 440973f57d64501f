use Rattle.std.proofs.Common.{◌≡◌, Some, length, refl}
use Rattle.std.specs.Prelude.{slice_get}
use Rattle.std.proofs.lemmas.Option.{slice_get_read}
use Rattle.route_choice.specs.Routings.{table_routing}
use Rattle.leak_round.proofs.Moves.{all_moved, has_source, holds_some, moved_next, no_entry, none_moved}
use Rattle.leak_round.proofs.moving.move_entries.Goals as goal

pub loop-one-init : goal.loop-one-init
loop-one-init c = none_moved (table_routing c.args.from.now c.args.table.now) c.args.holders.now c.args.pool.now c.args.made.now c.requires.spare c.requires.unused c.requires.blank c.requires.places

pub move_entry-requires-clause-there : goal.move_entry-requires-clause-there
move_entry-requires-clause-there c =
    let xs = c.args.holders.now in
    let at : slice_get xs c.loop-one.one-index ≡ Some c.one-item.result = slice_get_read xs (length xs) c.loop-one.one-index c.one-item.result refl c.loop-one-test.true c.one-item.is in
    holds_some (table_routing c.args.from.now c.args.table.now) xs c.requires.holders c.args.pool.now c.loop-one.pool c.loop-one.made c.loop-one.one-index c.loop-one.invariant c.one-item.result at

pub move_entry-requires-clause-place : goal.move_entry-requires-clause-place
move_entry-requires-clause-place c =
    let xs = c.args.holders.now in
    let at : slice_get xs c.loop-one.one-index ≡ Some c.one-item.result = slice_get_read xs (length xs) c.loop-one.one-index c.one-item.result refl c.loop-one-test.true c.one-item.is in
    no_entry (table_routing c.args.from.now c.args.table.now) xs c.requires.holders c.args.pool.now c.loop-one.pool c.loop-one.made c.loop-one.one-index c.loop-one.invariant c.one-item.result at

pub move_entry-requires-clause-source : goal.move_entry-requires-clause-source
move_entry-requires-clause-source c =
    let xs = c.args.holders.now in
    let at : slice_get xs c.loop-one.one-index ≡ Some c.one-item.result = slice_get_read xs (length xs) c.loop-one.one-index c.one-item.result refl c.loop-one-test.true c.one-item.is in
    has_source (table_routing c.args.from.now c.args.table.now) xs c.requires.holders c.args.pool.now c.loop-one.pool c.loop-one.made c.loop-one.one-index c.loop-one.invariant c.one-item.result at c.requires.rising c.args.seeds.now c.requires.seeds c.requires.passed_on

pub loop-one-preserved : goal.loop-one-preserved
loop-one-preserved c =
    let xs = c.args.holders.now in
    let at : slice_get xs c.loop-one.one-index ≡ Some c.one-item.result = slice_get_read xs (length xs) c.loop-one.one-index c.one-item.result refl c.loop-one-test.true c.one-item.is in
    let now = c.move_entry.ensures in
    moved_next (table_routing c.args.from.now c.args.table.now) xs c.requires.holders c.args.pool.now c.loop-one.pool c.loop-one.made c.loop-one.one-index c.loop-one.invariant c.one-item.result at c.move_entry.new.pool c.move_entry.new.made
    now.entry now.live now.there now.others now.holds now.keeps now.grows now.spare

pub returns-clause-same : goal.returns-clause-same
returns-clause-same c = all_moved (table_routing c.args.from.now c.args.table.now) c.args.holders.now c.requires.holders c.args.pool.now c.loop-one.pool c.loop-one.made c.loop-one.one-index c.loop-one.invariant c.loop-one-test.false
