use Rattle.told_laws.proofs.Delivered.{soon}
use Rattle.told_laws.proofs.laws.deliveries_settle_soon.Goals as goal

pub returns : goal.returns
returns c = λ w after d height text refused none inside high told.
    soon c.turns_settle.ensures c.turns_are_few.ensures c.kept_are_stable.ensures.only w none d inside height high text told.2
