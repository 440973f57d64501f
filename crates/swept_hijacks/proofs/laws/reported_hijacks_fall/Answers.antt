use Rattle.sim_core.proofs.Watches.{round_within}
use Rattle.trial_world.proofs.TrialNumbers.{kept_numbers}
use Rattle.swept_hijacks.proofs.laws.reported_hijacks_fall.Goals as goal

pub returns : goal.returns
returns c = λ w kinds k l round addr q x there watched hijacker adds k_is l_is.
    c.numbers_fall.ensures w kinds round addr _ _ q x (round_within w.rounds round there).0 hijacker adds (kept_numbers w k round addr k_is there watched) (kept_numbers (record w { kinds = kinds }) l round addr l_is there watched)
