use Rattle.std.proofs.lemmas.Result.{err_from_is_err_and}
use Rattle.io_edge.proofs.Appending.{Appends-nil}
use Rattle.asprop_run.specs.Loaded.{loaded_world}
use Rattle.asprop_run.proofs.Ending.{not_asked, not_loaded, worked}
use Rattle.asprop_run.proofs.Populated.{asked_has_an_as}
use Rattle.asprop_run.proofs.running.work.Goals as goal

pub returns-in_err-links : goal.returns-in_err-links
returns-in_err-links g c =
    let p = err_from_is_err_and c.from_residual.result c.from_residual.ensures.1 in
    rw (p.1, p.2) (not_asked c.in_err-links.field-0.0 c.in_err-links.ensures (Appends-nil _))

pub answer_in-requires-clause-populated : goal.answer_in-requires-clause-populated
answer_in-requires-clause-populated g c = asked_has_an_as c.in_ok-links.ensures (loaded_world c.in_ok-loaded.loaded) c.in_ok-loaded.ensures.world

pub returns-in_err-loaded : goal.returns-in_err-loaded
returns-in_err-loaded g c =
    let p = err_from_is_err_and c.from_residual-in_err-loaded.result c.from_residual-in_err-loaded.ensures.1 in
    rw (p.1, p.2) (not_loaded _ c.in_err-loaded.field-0.0 c.in_ok-links.ensures c.in_err-loaded.ensures.refused (Appends-nil _))

pub returns : goal.returns
returns g c =
    worked _ (loaded_world c.in_ok-loaded.loaded) c.answer_in.result c.in_ok-links.ensures c.in_ok-loaded.ensures.world c.in_ok-loaded.ensures.few c.answer_in.ensures
