use Rattle.std.proofs.Common.{◌≡◌, ◌<◌, ℕ, IsTrue, get_or}
use Rattle.std.specs.FinSet as set
use Rattle.policy_kinds.specs.declared.kind.Kind.{Kind}
use Rattle.trial_world.proofs.kinds.room_for.Given as goal

abbrev pub invariant-loop-change : goal.invariant-loop-change
invariant-loop-change l = record {
  rest : l.book.rest ≡ l.fn.book.rest;
  named : l.book.named ≡ l.fn.book.named;
  room : (k : ℕ) (d : ℕ × Kind) → k < l.change-index → IsTrue (set.contains l.book.room (get_or l.changes k d).0);
}
