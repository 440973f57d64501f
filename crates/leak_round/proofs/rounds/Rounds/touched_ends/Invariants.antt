use Rattle.std.proofs.Common.{◌≡◌, ◌⊎◌, ◌<◌, ℕ, true, Some}
use Rattle.std.specs.Prelude.{slice_get}
use Rattle.net_names.specs.Prefixes.{PrefixValue}
use Rattle.leak_round.specs.Staying.{IsSettled}
use Rattle.leak_round.specs.Touched.{touches}
use Rattle.leak_round.proofs.rounds.Rounds.touched_ends.Given as goal

abbrev pub invariant-loop-prefix : goal.invariant-loop-prefix
invariant-loop-prefix g l = record {
  first : (place : ℕ) (p : PrefixValue) → place < l.prefix-index → slice_get l.prefix-items place ≡ Some p → IsSettled g.P.RoutePolicy.meaning g.V.OriginStates.state_of l.world l.self l.touched p l.a l.b;
  second : (place : ℕ) (p : PrefixValue) → place < l.prefix-index → slice_get l.prefix-items place ≡ Some p → IsSettled g.P.RoutePolicy.meaning g.V.OriginStates.state_of l.world l.self l.touched p l.b l.a;
  only : (p : PrefixValue) (x : ℕ) → touches l.touched p x ≡ true → (x ≡ l.a) ⊎ (x ≡ l.b);
}
