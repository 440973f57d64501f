use Rattle.std.proofs.lemmas.Result.{err_from_is_err_and}
use Rattle.task_reading.proofs.ReadLemmas.{no_room, kept_names}
use Rattle.task_reading.proofs.reading.read_relations.Goals as goal

pub returns-in_err-room-clause-found : goal.returns-in_err-room-clause-found
returns-in_err-room-clause-found g c =
    let p = err_from_is_err_and c.from_residual.result c.from_residual.ensures.1 in
    rw (p.1, p.2) no_room

pub returns-in_err-room-clause-keeps : goal.returns-in_err-room-clause-keeps
returns-in_err-room-clause-keeps g c = kept_names _
