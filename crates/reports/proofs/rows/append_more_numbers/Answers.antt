use Rattle.std.proofs.Common.{◌∷◌, [], ◌∙◌}
use Rattle.reports.proofs.Paths.{grown_on, stayed}
use Rattle.reports.proofs.rows.append_more_numbers.Goals as goal

pub returns-in_err-put_bytes-clause-err : goal.returns-in_err-put_bytes-clause-err
returns-in_err-put_bytes-clause-err c = grown_on _ _ _ _ _ c.loop-number.invariant (stayed _ _ c.in_err-put_bytes.ensures.err)

pub returns-in_err-put_asn-clause-err : goal.returns-in_err-put_asn-clause-err
returns-in_err-put_asn-clause-err c = grown_on _ _ _ _ _ c.loop-number.invariant (record { more = 32 ∷ []; is = c.in_err-put_asn.ensures.err ∙ c.in_ok-put_bytes.ensures.ok })
