use Rattle.std.proofs.Common.{◌≡◌, ℕ, take}
use Rattle.stability_laws.specs.Book.{policy_at}
use Rattle.sweep.specs.Trials.{changed}
use Rattle.trial_world.proofs.kinds.give_all.Given as goal

abbrev pub invariant-loop-change : goal.invariant-loop-change
invariant-loop-change l = record {
  kinds : (a : ℕ) → policy_at l.book a ≡ changed (policy_at l.fn.book) (take l.change-index l.changes) a;
  room : l.book.room ≡ l.fn.book.room;
}
