use Rattle.std.proofs.Common.{refl}
use Rattle.caida_reader.proofs.RunLemmas.{get-past}
use Rattle.caida_reader.proofs.runs.is_new_in.Goals as goal

pub returns-then-is_past : goal.returns-then-is_past
returns-then-is_past c = λ _. get-past c.args.run.now (c.args.lo, c.args.hi) (c.if-is_past.ensures refl)
