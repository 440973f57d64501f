use Rattle.as_graph.proofs.Fitting.{fitting_is_rank}
use Rattle.as_graph.proofs.laws.fitting_are_ranks.Goals as goal

pub returns : goal.returns
returns c = fitting_is_rank
