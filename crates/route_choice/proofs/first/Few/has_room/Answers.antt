use Rattle.std.proofs.Common.{arith, le-leb}
use Rattle.std.proofs.lemmas.Bool.{leb-true}
use Rattle.indexmap.specs.IndexMap.{spare}
use Rattle.route_choice.proofs.first.Few.has_room.Goals as goal

pub returns : goal.returns
returns c = (
  λ fits. omega (arith, leb-true _ _ fits, c.left_for.ensures.enough, c.capacity.ensures, c.len.ensures.len),
  λ less. le-leb _ _ (omega (arith, c.left_for.ensures.least (spare c.args.self.now.others) (omega (arith, less)), c.capacity.ensures, c.len.ensures.len)),
)
