use Rattle.std.proofs.Common.{Option, unwrap_or, sym, subst, ◌∙◌}
use Rattle.std.specs.Prelude.{OnSome}
use Rattle.route_choice.specs.declared.table.Table.{Table}
use Rattle.route_choice.specs.RoundTables.{PutsTable}
use Rattle.route_choice.specs.Tables.{HasRoomForChanges}
use Rattle.leak_round.proofs.changes.put_changes.Goals as goal

pub commit-requires-clause-room : goal.commit-requires-clause-room
commit-requires-clause-room c =
    subst (λ (o : Option Table). HasRoomForChanges (unwrap_or o c.requires.was) c.args.overlay) (sym c.requires.at ∙ sym c.in-Some.ensures.value) c.requires.room

pub returns-in-Some-clause-put : goal.returns-in-Some-clause-put
returns-in-Some-clause-put c = record {
  was = c.in-Some.table.now;
  now = c.commit.new.self;
  was_at = sym c.in-Some.ensures.value;
  puts = subst (λ r. OnSome r (PutsTable c.args.tables.now (c.table_mut.follows.lender c.commit.new.self) c.args.prefix c.commit.new.self)) c.in-Some.is (c.table_mut.follows.holds c.commit.new.self);
  entries = c.commit.ensures.entries;
  prefix_is = c.commit.ensures.prefix;
  counted = c.uses_are_counted.ensures;
  holds = c.commit.ensures.holds;
}
