use Rattle.std.proofs.Common.{option_map}
use Rattle.stability_laws.specs.Steps.{low}
use Rattle.route_choice.specs.Routings.{entry_of}
use Rattle.dirty_recompute.proofs.ChosenLemmas.{decided_low, decided_none}
use Rattle.dirty_recompute.proofs.stepping.deciding.Goals as goal

pub returns-then-is_low : goal.returns-then-is_low
returns-then-is_low c = λ p. decided_low c.args.part (low (option_map (entry_of p) c.args.held.now)) (c.is_low.ensures.yes c.if-is_low.true p)

pub returns-else-is_low : goal.returns-else-is_low
returns-else-is_low c = λ p. decided_none c.args.part (low (option_map (entry_of p) c.args.held.now)) (c.is_low.ensures.no c.if-is_low.false p)
