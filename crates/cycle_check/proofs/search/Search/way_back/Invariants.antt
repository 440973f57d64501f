use Rattle.std.proofs.Common.{◌≡◌, ◌<◌, ℕ, Option, length}
use Rattle.net_names.specs.declared.routes.Rel.{Rel}
use Rattle.cycle_check.specs.Searches.{AreReached, IsBack}
use Rattle.cycle_check.proofs.search.Search.way_back.Given as goal

abbrev pub invariant-loop-place : goal.invariant-loop-place
invariant-loop-place l = record {
  inside : l.place < length l.self.reached.entries;
  back : (relation : ℕ → ℕ → Option Rel) → AreReached relation l.start l.self.reached.entries → IsBack relation l.self.reached.entries l.from l.place l.way.items;
}

abbrev pub decreases-loop-place : goal.decreases-loop-place
decreases-loop-place l = l.place
