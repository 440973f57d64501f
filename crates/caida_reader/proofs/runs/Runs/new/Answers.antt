use Rattle.std.proofs.Common.{◌∙◌, ap}
use Rattle.std.specs.FinMap as fin
use Rattle.caida_reader.specs.Runs.{joined}
use Rattle.caida_reader.proofs.JoinLemmas.{joined-empty, all_turned-empty, no_runs}
use Rattle.caida_reader.proofs.runs.Runs.new.Goals as goal

pub invariant_of-result : goal.invariant_of-result
invariant_of-result c = rw (c.new.ensures, c.new-3.ensures) (no_runs c.new-2.result)

pub returns : goal.returns
returns c = rw (c.new.ensures, c.new-3.ensures) (ap (joined fin.empty) all_turned-empty ∙ joined-empty)
