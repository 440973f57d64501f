use Rattle.reports.proofs.Paths.{grown_on}
use Rattle.reports.proofs.report.append_all_delivered.Goals as goal

pub returns-in_err-append_delivered-clause-err : goal.returns-in_err-append_delivered-clause-err
returns-in_err-append_delivered-clause-err c = grown_on _ _ _ _ _ c.loop-asn.invariant c.in_err-append_delivered.ensures.err
