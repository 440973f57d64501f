use Rattle.as_graph.proofs.TakenLinks.{edits_are_undone_lem}
use Rattle.as_graph.proofs.laws.edits_are_undone.Goals as goal

pub returns : goal.returns
returns c = edits_are_undone_lem
