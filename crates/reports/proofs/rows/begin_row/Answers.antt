use Rattle.std.proofs.lemmas.Result.{on_err_weaker}
use Rattle.reports.proofs.Paths.{grown, stayed}
use Rattle.reports.proofs.rows.begin_row.Goals as goal

pub returns-clause-err : goal.returns-clause-err
returns-clause-err c = on_err_weaker c.put_bytes.result (λ same. grown _ _ _ _ c.in_ok-put_asn.ensures.ok (stayed _ _ same)) c.put_bytes.ensures.err
