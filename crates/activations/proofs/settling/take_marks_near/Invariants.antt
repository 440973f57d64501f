use Rattle.std.proofs.Common.{◌≡◌, true, take}
use Rattle.net_names.specs.Numbers.{occurs}
use Rattle.as_graph.specs.Neighbours.{asns}
use Rattle.activations.specs.Settling.{KeepsStrangers}
use Rattle.activations.proofs.settling.take_marks_near.Given as goal

abbrev pub invariant-loop-neighbour : goal.invariant-loop-neighbour
invariant-loop-neighbour l = KeepsStrangers (λ b. occurs b (asns (take l.neighbour-index l.neighbours)) ≡ true) l.rows l.fn.marks.items l.marks.items
