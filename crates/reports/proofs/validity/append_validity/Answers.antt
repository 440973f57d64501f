use Rattle.std.proofs.lemmas.Result.{on_err_weaker}
use Rattle.reports.proofs.Paths.{grown, grown_on, stayed}
use Rattle.reports.proofs.validity.append_validity.Goals as goal

pub returns-in_err-put_bytes-2-clause-err : goal.returns-in_err-put_bytes-2-clause-err
returns-in_err-put_bytes-2-clause-err c = grown_on _ _ _ _ _ c.in_ok-put_bytes.ensures.ok (stayed _ _ c.in_err-put_bytes-2.ensures.err)

pub returns-in_err-put_bytes-3-clause-err : goal.returns-in_err-put_bytes-3-clause-err
returns-in_err-put_bytes-3-clause-err c = grown_on _ _ _ _ _ c.in_ok-put_bytes.ensures.ok (grown _ _ _ _ c.in_ok-put_bytes-2.ensures.ok (stayed _ _ c.in_err-put_bytes-3.ensures.err))

pub returns-clause-err : goal.returns-clause-err
returns-clause-err c = on_err_weaker c.append_payloads.result (λ g. grown _ _ _ _ c.in_ok-put_bytes.ensures.ok (grown _ _ _ _ c.in_ok-put_bytes-2.ensures.ok (grown _ _ _ _ c.in_ok-put_bytes-3.ensures.ok g))) c.append_payloads.ensures.err
