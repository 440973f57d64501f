use Rattle.std.proofs.lemmas.Result.{on_err_weaker}
use Rattle.reports.proofs.Paths.{grown, grown_on, stayed}
use Rattle.reports.proofs.entries.append_entry.Goals as goal

pub returns-in_err-append_any-clause-err : goal.returns-in_err-append_any-clause-err
returns-in_err-append_any-clause-err c = grown_on _ _ _ _ _ c.in_ok-begin_row.ensures.ok c.in_err-append_any.ensures.err

pub returns-clause-err : goal.returns-clause-err
returns-clause-err c = on_err_weaker c.put_bytes.result (λ same. grown _ _ _ _ c.in_ok-begin_row.ensures.ok (grown _ _ _ _ c.in_ok-append_any.ensures.ok (stayed _ _ same))) c.put_bytes.ensures.err
