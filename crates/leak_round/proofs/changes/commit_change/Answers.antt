use Rattle.std.proofs.Common.{arith}
use Rattle.leak_round.proofs.Laying.{place_within, can_put, committed, holds_put}
use Rattle.leak_round.proofs.changes.commit_change.Goals as goal

pub index_mut-requires : goal.index_mut-requires
index_mut-requires c = omega (arith, place_within c.args.tables.now.items c.args.change c.requires.fits, c.args.tables.now.ok.0)

pub put_changes-requires : goal.put_changes-requires
put_changes-requires c = can_put c.args.tables.now.items c.args.change c.requires.fits c.index_mut.result.now c.index_mut.ensures.value c.args.pool.now c.requires.held

pub returns-clause-put : goal.returns-clause-put
returns-clause-put c = committed c.args.tables.now.items c.args.change c.requires.fits c.index_mut.result.now c.index_mut.ensures.value c.args.pool.now c.put_changes.new.pool c.put_changes.new.tables c.put_changes.ensures.put

pub returns-clause-holds : goal.returns-clause-holds
returns-clause-holds c = holds_put c.args.tables.now.items c.args.change c.requires.fits c.index_mut.result.now c.index_mut.ensures.value c.args.pool.now c.put_changes.new.pool c.put_changes.new.tables c.put_changes.ensures.put
