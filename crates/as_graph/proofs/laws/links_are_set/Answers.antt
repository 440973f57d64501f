use Rattle.as_graph.proofs.EditsLemmas.{links_are_set_lem}
use Rattle.as_graph.proofs.laws.links_are_set.Goals as goal

pub returns : goal.returns
returns c = links_are_set_lem
