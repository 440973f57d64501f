use Rattle.as_graph.proofs.TakenLinks.{links_are_taken_lem}
use Rattle.as_graph.proofs.laws.links_are_taken.Goals as goal

pub returns : goal.returns
returns c = links_are_taken_lem
