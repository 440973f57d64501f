use Rattle.reports.proofs.Paths.{grown_on}
use Rattle.reports.proofs.validity.append_payloads.Goals as goal

pub returns-in_err-append_payload-clause-err : goal.returns-in_err-append_payload-clause-err
returns-in_err-append_payload-clause-err c = grown_on _ _ _ _ _ c.loop-vrp.invariant c.in_err-append_payload.ensures.err
