use Rattle.std.proofs.Common.{◌≡◌, ℕ, true, false, Some, take}
use Rattle.net_names.specs.Numbers.{last_or, occurs}
use Rattle.as_graph.specs.Neighbours.{asns}
use Rattle.stability_laws.specs.declared.entry.Entry.{Entry}
use Rattle.route_choice.specs.Routings.{routing_of}
use Rattle.route_choice.specs.NamedSets.{is_named}
use Rattle.route_choice.proofs.loops.may_loop_among.Given as goal

abbrev pub invariant-loop-index : goal.invariant-loop-index
invariant-loop-index g l = (n : ℕ) (e : Entry) → occurs n (asns (take l.index l.neighbours)) ≡ true → routing_of l.pool l.at.table.now l.overlay n ≡ Some e → is_named l.named l.turn.asn (last_or 0 e.path) ≡ false
