use Rattle.caida_reader.proofs.JoinLemmas.{joined-empty, no_firsts}
use Rattle.caida_reader.proofs.firsts.Firsts.new.Goals as goal

pub invariant_of-result : goal.invariant_of-result
invariant_of-result c = rw (c.new.ensures, c.new-2.ensures) no_firsts

pub returns : goal.returns
returns c = rw (c.new.ensures, c.new-2.ensures) joined-empty
