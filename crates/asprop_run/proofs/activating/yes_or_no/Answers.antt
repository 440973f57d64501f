use Rattle.std.proofs.Common.{refl}
use Rattle.asprop_run.proofs.activating.yes_or_no.Goals as goal

pub returns-then-holds : goal.returns-then-holds
returns-then-holds c = rw c.if-holds.true refl

pub returns-else-holds : goal.returns-else-holds
returns-else-holds c = rw c.if-holds.false refl
