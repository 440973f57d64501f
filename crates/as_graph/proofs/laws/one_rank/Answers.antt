use Rattle.as_graph.proofs.Fitting.{one_rank_at}
use Rattle.as_graph.proofs.laws.one_rank.Goals as goal

pub returns : goal.returns
returns c = one_rank_at
