use Rattle.roa_table.proofs.Placed.{puts, puts_none}
use Rattle.roa_table.proofs.chunk.Chunk.put.Goals as goal

pub returns-in-Ok-clause-ok : goal.returns-in-Ok-clause-ok
returns-in-Ok-clause-ok c = puts_none _ _ c.as_slice.ensures.value c.requires c.args.vrp c.in-Ok.field-0 c.in-Ok.ensures.bound c.in-Ok.ensures.position

pub returns-in_ok-insert-in-Err-clause-ok : goal.returns-in_ok-insert-in-Err-clause-ok
returns-in_ok-insert-in-Err-clause-ok c = puts _ _ c.as_slice.ensures.value c.requires c.args.vrp c.in-Err.at _ c.in-Err.ensures.bound c.in-Err.ensures.position c.in_ok-insert-in-Err.ensures.items
