use Rattle.std.proofs.Common.{[], refl}
use Rattle.cases.proofs.Pushes.{more_held}
use Rattle.cases.proofs.judge.inputs_of.Goals as goal

pub loop-file-preserved : goal.loop-file-preserved
loop-file-preserved c =
    let more = more_held [] c.args.files.now c.loop-file.file-index c.file-item.result c.loop-file-test.true c.file-item.is in
    rw (c.in_ok-file.ensures.ok, c.loop-file.invariant, c.as_str.ensures.value, c.deref.ensures.value, more) refl
