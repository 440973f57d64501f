use Rattle.std.proofs.lemmas.Result.{on_err_weaker}
use Rattle.reports.proofs.Paths.{grown, grown_on}
use Rattle.reports.proofs.rows.append_held.Goals as goal

pub returns-in_err-append_path-clause-err : goal.returns-in_err-append_path-clause-err
returns-in_err-append_path-clause-err c = grown_on _ _ _ _ _ c.in_ok-begin_entry.ensures.ok c.in_err-append_path.ensures.err

pub returns-clause-err : goal.returns-clause-err
returns-clause-err c = on_err_weaker c.append_otc.result (λ g. grown _ _ _ _ c.in_ok-begin_entry.ensures.ok (grown _ _ _ _ c.in_ok-append_path.ensures.ok g)) c.append_otc.ensures.err
