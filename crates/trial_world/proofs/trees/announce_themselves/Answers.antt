use Rattle.std.proofs.Common.{◌≡◌, ◌∙◌, ◌<◌, Some, length, ap, arith}
use Rattle.std.specs.Prelude.{slice_get}
use Rattle.std.proofs.lemmas.Option.{slice_get_within}
use Rattle.trial_world.proofs.TreeSteps.{announcer_at, with_path}
use Rattle.trial_world.proofs.trees.announce_themselves.Goals as goal

pub returns : goal.returns
returns c = λ t a path at.
    let items = c.announcers-asn-items.result.now in
    let (i, there) = announcer_at c.args.plan.now c.args.prefix a (with_path c.args.plan.now c.args.prefix a path at) in
    let stands : slice_get items i ≡ Some a = ap (λ xs. slice_get xs i) c.announcers-asn-items.ensures ∙ there in
    let less : i < length items = slice_get_within items i a stands in
    c.loop-asn.invariant i a (omega (arith, less, c.loop-asn-test.false)) stands path at
