use Rattle.std.proofs.Common.{refl}
use Rattle.worked_cases.proofs.tests.rounds.tidied.Goals as goal

pub tidy-requires-clause-stable : goal.tidy-requires-clause-stable
tidy-requires-clause-stable g c = (_, λ p a. refl, c.rounds_of-rounds.ensures.stable)
