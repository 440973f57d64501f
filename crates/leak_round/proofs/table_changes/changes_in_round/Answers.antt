use Rattle.std.proofs.Common.{◌-◌, List, set, sym, subst}
use Rattle.std.specs.Prelude.{IfOk, OnSome}
use Rattle.net_names.specs.Prefixes.{PrefixValue}
use Rattle.route_choice.specs.declared.overlay.Overlay.{Overlay}
use Rattle.route_choice.specs.declared.round_tables.RoundTables.{RoundTables}
use Rattle.route_choice.specs.declared.table.Table.{Table}
use Rattle.route_choice.specs.RoundTables.{PutsTable}
use Rattle.stability_laws.specs.World.{setting_in}
use Rattle.leak_round.specs.Overlays.{table_in}
use Rattle.leak_round.specs.Found.{AreRoomed, AreSame, AreTableChanges, CanFindInTable, IsRoomed}
use Rattle.leak_round.proofs.Listing.{some_of}
use Rattle.leak_round.proofs.Roomed.{all_same, of_both, read_back, roomed}
use Rattle.leak_round.proofs.table_changes.changes_in_round.Given as given
use Rattle.leak_round.proofs.table_changes.changes_in_round.Goals as goal
use Rattle.leak_round.proofs.table_changes.changes_in_round.Goals.{After-changes_of_table}

pub changes_of_table-requires-clause-can : goal.changes_of_table-requires-clause-can
changes_of_table-requires-clause-can g c =
    let at = c.args.at.now in
    let old = c.args.tables.now.items in
    let (t, there) = some_of (table_in old at.round at.prefix) c.requires.there in
    let can = c.requires.can c.in-Some.table.now (read_back old at.round at.prefix c.index_mut.result.now c.index_mut.ensures.value t there c.in-Some.table.now (sym c.in-Some.ensures.value)) in
    subst (λ (p : PrefixValue). CanFindInTable (setting_in g.P.RoutePolicy.meaning g.V.OriginStates.state_of c.args.finding.now.world.now p) c.args.finding.now.world.now.graph.now p c.args.edit.now.seeds.now c.args.edit.now.touched.now c.args.pool.now c.in-Some.table.now) (sym can.prefix_is) can

-- the table gets room in its round
in_round : (g : given.Over) (c : After-changes_of_table g) → IsRoomed c.index_mut.result.now (c.table_mut.follows.lender c.changes_of_table.new.table) c.args.at.now.prefix
in_round g c = record {
  was = c.in-Some.table.now;
  now = c.changes_of_table.new.table;
  was_at = sym c.in-Some.ensures.value;
  puts = subst (λ r. OnSome r (PutsTable c.index_mut.result.now (c.table_mut.follows.lender c.changes_of_table.new.table) c.args.at.now.prefix c.changes_of_table.new.table)) c.in-Some.is (c.table_mut.follows.holds c.changes_of_table.new.table);
  same = c.changes_of_table.ensures.same;
}

-- so one table has perhaps more room, and all entries stay
both : (g : given.Over) (c : After-changes_of_table g) → AreRoomed c.args.tables.now.items (set c.args.tables.now.items (c.args.at.now.round - 1) (c.table_mut.follows.lender c.changes_of_table.new.table)) c.args.at.now.round c.args.at.now.prefix
    × AreSame c.args.tables.now.items (set c.args.tables.now.items (c.args.at.now.round - 1) (c.table_mut.follows.lender c.changes_of_table.new.table))
both g c =
    let at = c.args.at.now in
    let old = c.args.tables.now.items in
    let (t, there) = some_of (table_in old at.round at.prefix) c.requires.there in
    let after = c.table_mut.follows.lender c.changes_of_table.new.table in (
      roomed old at.round at.prefix c.index_mut.result.now c.index_mut.ensures.value t there after (in_round g c),
      all_same old at.round at.prefix c.index_mut.result.now c.index_mut.ensures.value t there after (in_round g c),
    )

pub returns-clause-roomed : goal.returns-clause-roomed
returns-clause-roomed g c = (both g (goal.at.returns-clause-roomed g c).After-changes_of_table).0

pub returns-clause-same : goal.returns-clause-same
returns-clause-same g c = (both g (goal.at.returns-clause-same g c).After-changes_of_table).1

pub returns-clause-found : goal.returns-clause-found
unfolding roomed in_round
returns-clause-found g c =
    let at = c.args.at.now in
    let old = c.args.tables.now.items in
    let after : RoundTables = c.table_mut.follows.lender c.changes_of_table.new.table in
    let new : List RoundTables = set old (at.round - 1) after in
    let (t, there) = some_of (table_in old at.round at.prefix) c.requires.there in
    let room = in_round g (goal.at.returns-clause-found g c).After-changes_of_table in
    let all = roomed old at.round at.prefix c.index_mut.result.now c.index_mut.ensures.value t there after room in
    let w = setting_in g.P.RoutePolicy.meaning g.V.OriginStates.state_of c.args.finding.now.world.now in
    let is = (c.requires.can c.in-Some.table.now all.was_at).prefix_is in
    let Found : PrefixValue → Table → Table → Overlay → Type 0 = λ p x y o. AreTableChanges (w p) c.args.finding.now.world.now.graph.now c.args.edit.now.seeds.now c.args.edit.now.touched.now c.args.pool.now c.changes_of_table.new.pool x y c.args.steps.now c.changes_of_table.new.steps o in
    of_both (Found at.prefix) (table_in old at.round at.prefix) (table_in new at.round at.prefix) c.in-Some.table.now c.changes_of_table.new.table all.was_at all.now_at c.changes_of_table.result
    (subst (λ (p : PrefixValue). IfOk c.changes_of_table.result (Found p c.in-Some.table.now c.changes_of_table.new.table)) is c.changes_of_table.ensures.found)
