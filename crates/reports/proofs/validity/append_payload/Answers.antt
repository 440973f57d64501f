use Rattle.std.proofs.Common.{◌∙◌}
use Rattle.std.proofs.lemmas.Result.{on_err_weaker}
use Rattle.reports.proofs.Paths.{grown, grown_on, stayed}
use Rattle.reports.proofs.validity.append_payload.Goals as goal

pub returns-in_err-put_bytes-clause-err : goal.returns-in_err-put_bytes-clause-err
returns-in_err-put_bytes-clause-err c = grown_on _ _ _ _ _ c.in_ok-put_number.ensures.ok (stayed _ _ c.in_err-put_bytes.ensures.err)

pub returns-in_err-put_prefix-clause-err : goal.returns-in_err-put_prefix-clause-err
returns-in_err-put_prefix-clause-err c = grown_on _ _ _ _ _ c.in_ok-put_number.ensures.ok (record { more = _; is = c.in_err-put_prefix.ensures.err ∙ c.in_ok-put_bytes.ensures.ok })

pub returns-clause-err : goal.returns-clause-err
returns-clause-err c = on_err_weaker c.append_max.result (λ g. grown _ _ _ _ c.in_ok-put_number.ensures.ok (grown _ _ _ _ c.in_ok-put_bytes.ensures.ok (grown _ _ _ _ c.in_ok-put_prefix.ensures.ok g))) c.append_max.ensures.err
