use Rattle.std.proofs.Common.{ap, Err}
use Rattle.task_reading.proofs.ReadLemmas.{read_whole, read_long, long_file, no_room}
use Rattle.task_reading.proofs.reading.read_bytes.Goals as goal

pub returns-in-Ok-clause-found : goal.returns-in-Ok-clause-found
returns-in-Ok-clause-found g c = read_whole c.args.file c.args.most _ _ _ _ c.in-Ok.bytes c.in-Ok.ensures.whole

pub returns-in-Err-Memory-clause-found : goal.returns-in-Err-Memory-clause-found
returns-in-Err-Memory-clause-found g c = no_room

pub returns-in-Err-TooLong-clause-found : goal.returns-in-Err-TooLong-clause-found
returns-in-Err-TooLong-clause-found g c = read_long c.args.file c.args.most _ _ _ _ (long_file _ _ c.args.most (c.in-Err-TooLong.ensures.too_long (ap Err c.in-Err-TooLong.field-0-is)))
