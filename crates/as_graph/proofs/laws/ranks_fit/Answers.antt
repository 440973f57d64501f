use Rattle.as_graph.proofs.Fitting.{ranks_fit_at}
use Rattle.as_graph.proofs.laws.ranks_fit.Goals as goal

pub returns : goal.returns
returns c = ranks_fit_at
