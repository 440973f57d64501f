use Rattle.std.proofs.lemmas.Result.{on_err_weaker}
use Rattle.reports.proofs.Paths.{grown, grown_on, stayed}
use Rattle.reports.proofs.rows.append_row.Goals as goal

pub returns-in_err-append_entry-clause-err : goal.returns-in_err-append_entry-clause-err
returns-in_err-append_entry-clause-err c = grown_on _ _ _ _ _ c.in_ok-begin_row.ensures.ok c.in_err-append_entry.ensures.err

pub returns-clause-err : goal.returns-clause-err
returns-clause-err c = on_err_weaker c.put_bytes.result (λ same. grown _ _ _ _ c.in_ok-begin_row.ensures.ok (grown _ _ _ _ c.in_ok-append_entry.ensures.ok (stayed _ _ same))) c.put_bytes.ensures.err
