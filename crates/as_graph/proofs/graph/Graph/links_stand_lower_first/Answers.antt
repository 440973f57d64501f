use Rattle.std.proofs.Common.{ap, ◌∙◌}
use Rattle.as_graph.specs.Topology.{Topology}
use Rattle.std.specs.FinMap as map
use Rattle.as_graph.proofs.RowLinks.{links_of-lower}
use Rattle.as_graph.proofs.graph.Graph.links_stand_lower_first.Goals as goal

pub returns : goal.returns
returns c = λ q r got.
    links_of-lower c.self.inside.rows c.self.invariant.0.graph.unique q r (ap (λ (g : Topology). map.get g.links q) c.self.view_is ∙ got)
