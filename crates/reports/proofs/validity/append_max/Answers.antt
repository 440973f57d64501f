use Rattle.std.proofs.lemmas.Result.{on_err_weaker}
use Rattle.reports.proofs.Paths.{grown, grown_on, stayed}
use Rattle.reports.proofs.validity.append_max.Goals as goal

pub returns-in_err-put_number-clause-err : goal.returns-in_err-put_number-clause-err
returns-in_err-put_number-clause-err c = grown_on _ _ _ _ _ c.in_ok-put_bytes.ensures.ok (stayed _ _ c.in_err-put_number.ensures.err)

pub returns-clause-err : goal.returns-clause-err
returns-clause-err c = on_err_weaker c.put_bytes-2.result (λ same. grown _ _ _ _ c.in_ok-put_bytes.ensures.ok (grown _ _ _ _ c.in_ok-put_number.ensures.ok (stayed _ _ same))) c.put_bytes-2.ensures.err
