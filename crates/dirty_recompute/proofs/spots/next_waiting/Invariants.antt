use Rattle.dirty_recompute.proofs.SpotLemmas.{AreAhead}
use Rattle.dirty_recompute.proofs.spots.next_waiting.Given as goal

abbrev pub invariant-loop-step : goal.invariant-loop-step
invariant-loop-step l = AreAhead l.way l.low l.high l.step l.items
