use Rattle.std.proofs.Common.{◌≡◌, ◌∙◌, ◌<◌, true, Some, length, ap, sym, arith, rules}
use Rattle.std.specs.Prelude.{slice_get}
use Rattle.std.proofs.lemmas.Option.{slice_get-get_or, slice_get_within}
use Rattle.stability_laws.proofs.Listing.{at_next}
use Rattle.trial_world.specs.Trees.{AnnounceThemselves}
use Rattle.trial_world.proofs.PartPlans.{listed}
use Rattle.trial_world.proofs.trees.needs_no_paths.Goals as goal

pub loop-prefix-preserved : goal.loop-prefix-preserved
loop-prefix-preserved c =
    let items = c.prefixes-prefix-items.result.now in
    let n = c.loop-prefix.prefix-index in
    let x = c.prefix-item.result in
    let passed : c.announce_themselves.result ≡ true = search rules in
    at_next items n x (AnnounceThemselves c.args.fixed.now.plan) (slice_get-get_or items n x c.loop-prefix-test.true ∙ ap Some (sym c.prefix-item.is)) (c.announce_themselves.ensures passed) c.loop-prefix.invariant

pub returns : goal.returns
returns c = λ t. record {
  no_leaks = c.leaks_nothing.ensures t;
  alone = λ p a path at.
      let items = c.prefixes-prefix-items.result.now in
      let (i, there) = listed c.args.fixed.now.plan p (c.plans_are_sound.ensures.known p a path at) in
      let stands : slice_get items i ≡ Some p = ap (λ xs. slice_get xs i) c.prefixes-prefix-items.ensures ∙ there in
      let less : i < length items = slice_get_within items i p stands in
      c.loop-prefix.invariant i p (omega (arith, less, c.loop-prefix-test.false)) stands a path at;
}
