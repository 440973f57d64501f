use Rattle.told_laws.proofs.Origins.{origins_are_ases}
use Rattle.told_laws.proofs.laws.origins_are_ases.Goals as goal

pub returns : goal.returns
returns c = origins_are_ases
