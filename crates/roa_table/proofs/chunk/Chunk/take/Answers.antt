use Rattle.std.proofs.Common.{Ok, Err}
use Rattle.roa_table.proofs.Placed.{found, takes, takes_none}
use Rattle.roa_table.proofs.chunk.Chunk.take.Goals as goal

pub returns-in-Ok-clause-gone : goal.returns-in-Ok-clause-gone
returns-in-Ok-clause-gone c = takes _ _ c.as_slice.ensures.value c.requires c.args.vrp c.in-Ok.at _ c.in-Ok.ensures.bound c.in-Ok.ensures.position c.remove.ensures.items

pub returns-in-Ok-clause-found : goal.returns-in-Ok-clause-found
returns-in-Ok-clause-found c = found _ _ c.as_slice.ensures.value c.requires c.args.vrp (Ok c.in-Ok.at) c.in-Ok.ensures.bound c.in-Ok.ensures.position

pub returns-in-Err-clause-gone : goal.returns-in-Err-clause-gone
returns-in-Err-clause-gone c = takes_none _ _ c.as_slice.ensures.value c.requires c.args.vrp c.in-Err.field-0 c.in-Err.ensures.bound c.in-Err.ensures.position

pub returns-in-Err-clause-found : goal.returns-in-Err-clause-found
returns-in-Err-clause-found c = found _ _ c.as_slice.ensures.value c.requires c.args.vrp (Err c.in-Err.field-0) c.in-Err.ensures.bound c.in-Err.ensures.position
