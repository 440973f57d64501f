use Rattle.std.proofs.Common.{◌≡◌, ◌++◌}
use Rattle.topo_gen.proofs.UpTo.{edits}
use Rattle.topo_gen.proofs.lines.push_all_edits.Given as goal

abbrev pub invariant-edits : goal.invariant-edits
invariant-edits l = l.lines ≡ l.fn.lines ++ edits l.i l.fn.links
