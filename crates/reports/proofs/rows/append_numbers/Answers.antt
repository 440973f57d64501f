use Rattle.std.proofs.Common.{arith}
use Rattle.reports.proofs.Paths.{told_all}
use Rattle.reports.proofs.rows.append_numbers.Goals as goal

pub returns-in_ok-put_asn-in-len1-up-clause-ok : goal.returns-in_ok-put_asn-in-len1-up-clause-ok
returns-in_ok-put_asn-in-len1-up-clause-ok c = told_all c.append_more_numbers.result c.args.numbers.now c.first-item.result _ _ _ (omega arith) c.first-item.is c.in_ok-put_asn-in-len1-up.ensures.ok c.append_more_numbers.ensures.ok
