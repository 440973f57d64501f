use Rattle.std.proofs.Common.{◌≤◌}
use Rattle.std.proofs.lemmas.Bool.{and_parts}
use Rattle.stability_laws.specs.Plans.{announcers_of}
use Rattle.sim_core.specs.World.{has_round, kind_at}
use Rattle.sim_core.proofs.Watches.{round_within}
use Rattle.trial_world.specs.Sweeps.{AreNumbers, with_kinds}
use Rattle.trial_world.specs.Trials.{as_set}
use Rattle.trial_world.proofs.Begun.{begun_is_front}
use Rattle.trial_world.proofs.TrialNumbers.{one_number}
use Rattle.trial_world.proofs.laws.begun_rows_are_a_front.Goals as goal

pub returns : goal.returns
returns c = λ w line begun text none inside.
    let some : 1 ≤ line.round = (round_within w.rounds line.round (and_parts (has_round w line.round) _ inside).0).0 in
    begun_is_front (as_set w) (announcers_of w.plan) (λ kinds. AreNumbers (with_kinds w kinds) line.round line.addr) (kind_at w) line
    (λ f m n. one_number c.one_stable_routing.ensures (with_kinds w f) (λ xs cycle. none (xs, cycle)) line.round line.addr m n some) begun text
