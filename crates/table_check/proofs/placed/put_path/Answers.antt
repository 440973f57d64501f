use Rattle.std.proofs.Common.{sym}
use Rattle.std.proofs.lemmas.Result.{on_ok_weaker}
use Rattle.table_check.specs.Rows.{held_by}
use Rattle.table_check.proofs.placed.put_path.Goals as goal

pub returns-in-Some : goal.returns-in-Some
returns-in-Some c =
    let holds = sym (rw c.in-Some.is at c.held.ensures) in
    on_ok_weaker c.put.result (λ keeps. keeps (held_by c.args.table.now c.args.round) c.in-Some.entry.now holds (sym c.as_slice.ensures)) c.put.ensures
