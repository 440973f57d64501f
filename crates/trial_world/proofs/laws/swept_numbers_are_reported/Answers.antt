use Rattle.sim_core.proofs.Watches.{round_within}
use Rattle.trial_world.proofs.TrialNumbers.{kept_numbers, one_number}
use Rattle.trial_world.proofs.laws.swept_numbers_are_reported.Goals as goal

pub returns : goal.returns
returns c = λ w k round addr numbers none kept there watched are.
    one_number c.one_stable_routing.ensures w (λ xs cycle. none (xs, cycle)) round addr numbers _ (round_within w.rounds round there).0 are (kept_numbers w k round addr kept there watched)
