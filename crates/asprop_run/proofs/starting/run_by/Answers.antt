use Rattle.io_edge.proofs.Appending.{Appends-nil}
use Rattle.asprop_run.proofs.Arguments.{over_words, without_words}
use Rattle.asprop_run.proofs.starting.run_by.Goals as goal

pub returns-in-Ok : goal.returns-in-Ok
returns-in-Ok g c = over_words _ _ _ c.in-Ok.ensures (rw c.deref.ensures.value at c.run.ensures.ran)

pub returns-in-Err : goal.returns-in-Err
returns-in-Err g c = without_words _ _ _ _ _ _ c.in-Err.ensures c.explain.ensures (Appends-nil _)
