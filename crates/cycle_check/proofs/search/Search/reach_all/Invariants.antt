use Rattle.std.proofs.Common.{◌≡◌, ◌<◌, ℕ, true, nat_eq, get_or}
use Rattle.indexmap.specs.IndexMap.{IsUnique}
use Rattle.as_graph.specs.Rows.{blank}
use Rattle.cycle_check.specs.Cycles.{without_pair}
use Rattle.cycle_check.specs.Searches.{toward, is_reached, GoesOn}
use Rattle.cycle_check.proofs.Wanting.{is_wanted_at}
use Rattle.cycle_check.proofs.search.Search.reach_all.Given as goal

abbrev pub invariant-loop-neighbour : goal.invariant-loop-neighbour
invariant-loop-neighbour l = record {
  unique : IsUnique nat_eq l.reached;
  goes : GoesOn (toward l.up (without_pair l.graph l.pair.provider l.pair.customer)) l.asn l.from l.fn.reached.entries l.reached.entries;
  met : (j : ℕ) → j < l.neighbour-index → is_wanted_at l.up l.pair.provider l.pair.customer l.asn l.neighbours j ≡ true → is_reached l.reached.entries (get_or l.neighbours j blank).asn ≡ true;
}
