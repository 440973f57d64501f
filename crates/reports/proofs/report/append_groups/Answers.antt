use Rattle.reports.proofs.Paths.{grown_on}
use Rattle.reports.proofs.report.append_groups.Goals as goal

pub returns-in_err-append_group-clause-err : goal.returns-in_err-append_group-clause-err
returns-in_err-append_group-clause-err c = grown_on _ _ _ _ _ c.loop-group.invariant c.in_err-append_group.ensures.err
