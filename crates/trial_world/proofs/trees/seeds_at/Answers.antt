use Rattle.std.proofs.Common.{◌≡◌, ◌∙◌, ◌+◌, ◌≤◌, ℕ, List, Some, length, ap, sym, subst}
use Rattle.std.specs.Prelude.{Vec, slice_get}
use Rattle.std.specs.Global.{Global}
use Rattle.std.proofs.lemmas.Option.{slice_get-get_or}
use Rattle.routing_tree.specs.declared.tree.PlacedSeed.{PlacedSeed}
use Rattle.stability_laws.specs.Plans.{announcers_of}
use Rattle.trial_world.proofs.TreeSteps.{AreSeedsTo, seed_less, seed_more, seeds_done}
use Rattle.trial_world.proofs.TrialTables.{announcer_in}
use Rattle.trial_world.proofs.trees.seeds_at.Goals.{then-announces+in_ok-push, else-announces}
use Rattle.trial_world.proofs.trees.seeds_at.Goals as goal

pub seed_at-requires-clause-known : goal.seed_at-requires-clause-known
seed_at-requires-clause-known c = c.requires.order.complete c.asn-item.result ∙ announcer_in c.args.fixed.now c.requires.fixed c.args.prefix c.asn-item.result (sym c.announces.ensures.value ∙ c.if-announces.true)

pub loop-asn-preserved : goal.loop-asn-preserved
loop-asn-preserved c =
    let f = c.args.fixed.now in
    let p = c.args.prefix in
    let ases = c.args.order.now.ases in
    let names = c.announcers-asn-items.result.now in
    let n = c.loop-asn.asn-index in
    let a = c.asn-item.result in
    let at : slice_get names n ≡ Some a = slice_get-get_or names n a c.loop-asn-test.true ∙ ap Some (sym c.asn-item.is) in
    elim c.if-announces.branch [
      | then-announces+in_ok-push w ↦
          let s = w.seed_at.result in
          subst (AreSeedsTo f p ases names (n + 1)) (sym (ap (λ (v : Vec PlacedSeed Global). v.items) w.seeds-is ∙ w.in_ok-push.ensures.items))
          (seed_more f p ases names n c.loop-asn.seeds.items c.loop-asn.invariant a at s w.seed_at.ensures.inside w.seed_at.ensures.place w.seed_at.ensures.state (sym c.announces.ensures.value ∙ w.if-announces.true))
      | else-announces w ↦
          subst (AreSeedsTo f p ases names (n + 1)) (sym (ap (λ (v : Vec PlacedSeed Global). v.items) w.seeds-is))
          (seed_less f p ases names n c.loop-asn.seeds.items c.loop-asn.invariant a at (sym c.announces.ensures.value ∙ w.if-announces.false))
    ]

pub returns : goal.returns
returns c =
    let f = c.args.fixed.now in
    let is = c.announcers-asn-items.ensures in
    let past : length (announcers_of f.plan) ≤ c.loop-asn.asn-index = subst (λ (xs : List ℕ). length xs ≤ c.loop-asn.asn-index) is c.loop-asn-test.false in
    seeds_done f c.args.prefix c.args.order.now.ases c.requires.fixed c.requires.no_paths c.requires.order c.loop-asn.asn-index c.loop-asn.seeds.items past
    (subst (λ (xs : List ℕ). AreSeedsTo f c.args.prefix c.args.order.now.ases xs c.loop-asn.asn-index c.loop-asn.seeds.items) is c.loop-asn.invariant)
