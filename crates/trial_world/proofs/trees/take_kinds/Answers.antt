use Rattle.std.proofs.Common.{◌≡◌, ◌∙◌, ℕ, false, ap, sym}
use Rattle.std.specs.Prelude.{slice_index}
use Rattle.std.proofs.lemmas.List.{get_or_default}
use Rattle.policy_kinds.specs.Kinds.{kind_policy}
use Rattle.policy_kinds.specs.declared.kind.Kind.{Kind}
use Rattle.stability_laws.specs.Book.{policy_at}
use Rattle.trial_world.proofs.TreeLists.{write_next}
use Rattle.trial_world.proofs.trees.take_kinds.Goals as goal

pub loop-place-preserved : goal.loop-place-preserved
loop-place-preserved c =
    let ases = c.args.ases.now in
    let n = c.loop-place.place in
    let v = c.policy_near.result.now in
    let here : c.index-ases-place.result ≡ slice_index ases n = c.index-ases-place.is ∙ get_or_default ases n c.index-ases-place.result 0 c.loop-place-test.true in
    write_next (λ (k : ℕ) (x : Kind). (x ≡ policy_at c.args.book.now (slice_index ases k)) × ((kind_policy x).marks ≡ false)) c.loop-place.kinds n v
    (c.policy_near.ensures ∙ ap (policy_at c.args.book.now) here, sym c.marks.ensures ∙ c.if-marks.false) c.loop-place.invariant
