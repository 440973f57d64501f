use Rattle.topo_gen.proofs.Entries.{empty_rises}
use Rattle.topo_gen.proofs.pairs.Pairs.new.Goals as goal

pub invariant_of-result : goal.invariant_of-result
invariant_of-result c = rw c.new.ensures.empty empty_rises
