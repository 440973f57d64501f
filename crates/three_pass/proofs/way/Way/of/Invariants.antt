use Rattle.std.proofs.Common.{◌≡◌, Option, length}
use Rattle.net_names.specs.declared.routes.State.{State}
use Rattle.stability_laws.specs.Book.{policy_at}
use Rattle.three_pass.specs.Stances.{stances_of}
use Rattle.three_pass.specs.Ways.{AreStances}
use Rattle.three_pass.proofs.way.Way.of.Given as goal

abbrev pub invariant-loop-place : goal.invariant-loop-place
invariant-loop-place g l = record {
  count : (all : Option State) → length (stances_of l.stances all) ≡ l.place;
  each : (all : Option State) → AreStances (λ a. g.P.RoutePolicy.meaning (policy_at l.world.book.now a)) l.course all (stances_of l.stances all);
}
