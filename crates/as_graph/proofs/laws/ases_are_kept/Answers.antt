use Rattle.as_graph.proofs.EditedAses.{ases_are_kept_lem}
use Rattle.as_graph.proofs.laws.ases_are_kept.Goals as goal

pub returns : goal.returns
returns c = ases_are_kept_lem
