use Rattle.std.proofs.Common.{sym, ap}
use Rattle.reports.specs.Validity.{state_word}
use Rattle.reports.proofs.validity.state_name.Goals as goal

pub returns-in-Valid : goal.returns-in-Valid
returns-in-Valid c = ap state_word (sym c.in-Valid.is)

pub returns-in-Invalid : goal.returns-in-Invalid
returns-in-Invalid c = ap state_word (sym c.in-Invalid.is)

pub returns-in-NotFound : goal.returns-in-NotFound
returns-in-NotFound c = ap state_word (sym c.in-NotFound.is)
