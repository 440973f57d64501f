use Rattle.leak_round.specs.Rounds.{uses_of}
use Rattle.leak_round.proofs.Reaching.{live_are_used}
use Rattle.leak_round.proofs.laws.live_cells_are_reached.Goals as goal

pub returns : goal.returns
returns c =
    let r = c.args.rounds.now in
    live_are_used r.pool (uses_of r) (r.closed c.requires.closed)
