use Rattle.std.proofs.Common.{◌≡◌, ◌-◌, ◌≤◌, ◌++◌, length, take}
use Rattle.route_choice.specs.Tables.{places_of}
use Rattle.leak_round.proofs.told.push_changed.Given as goal

abbrev pub invariant-places : goal.invariant-places
invariant-places l = record {
  so_far : l.ases.items ≡ l.fn.ases.items ++ take l.place (places_of l.overlay);
  within : l.place ≤ length (places_of l.overlay);
}

abbrev pub decreases-places : goal.decreases-places
decreases-places l = length (places_of l.overlay) - l.place
