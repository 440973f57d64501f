use Rattle.route_choice.proofs.RowLemmas.{none_kept}
use Rattle.route_choice.proofs.slots.Slots.new.Goals as goal

pub invariant_of-result : goal.invariant_of-result
invariant_of-result c = none_kept c.new.ensures.items c.new-2.ensures
