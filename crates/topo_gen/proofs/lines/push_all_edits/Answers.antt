use Rattle.std.proofs.Common.{sym}
use Rattle.std.proofs.lemmas.List.{append-nil}
use Rattle.topo_gen.proofs.UpTo.{more_edits}
use Rattle.topo_gen.proofs.lines.push_all_edits.Goals as goal

pub edits-init : goal.edits-init
edits-init c = sym (append-nil _)

pub edits-preserved : goal.edits-preserved
edits-preserved c = more_edits _ _ _ _ _ c.edits.invariant c.in_ok-push_edits_at.ensures
