use Rattle.std.proofs.Common.{◌≡◌, ℕ, ◌<◌, false, Some}
use Rattle.std.specs.Prelude.{slice_get, slice_index}
use Rattle.policy_kinds.specs.Kinds.{kind_policy}
use Rattle.policy_kinds.specs.declared.kind.Kind.{Kind}
use Rattle.stability_laws.specs.Book.{policy_at}
use Rattle.trial_world.proofs.trees.take_kinds.Given as goal

abbrev pub invariant-loop-place : goal.invariant-loop-place
invariant-loop-place l = (k : ℕ) (x : Kind) → k < l.place → slice_get l.kinds k ≡ Some x → (x ≡ policy_at l.book (slice_index l.ases k)) × ((kind_policy x).marks ≡ false)
