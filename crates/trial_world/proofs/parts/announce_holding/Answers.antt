use Rattle.std.proofs.Common.{◌≡◌, ◌∙◌, ap, sym, subst, Some, ℕ, ◌<◌, ◌+◌, ◌≤◌, List, length, refl, arith}
use Rattle.std.specs.Prelude.{slice_get}
use Rattle.std.proofs.lemmas.Option.{slice_get-get_or}
use Rattle.net_names.specs.Prefixes.{PrefixValue}
use Rattle.stability_laws.specs.Plans.{Plan}
use Rattle.trial_world.specs.Fixed.{IsPart}
use Rattle.trial_world.proofs.PartPlans.{HasAll, all_held, next_away, next_held, nothing_is}
use Rattle.trial_world.proofs.parts.announce_holding.Goals.{then-holds+in_ok-announce_prefix, else-holds}
use Rattle.trial_world.proofs.parts.announce_holding.Goals as goal

pub loop-prefix-init : goal.loop-prefix-init
loop-prefix-init c = record {
  part = nothing_is c.args.addr c.args.whole.now c.args.part.now c.requires;
  leakers = refl;
  there = λ i p less. absurd (omega (arith, less));
}

pub loop-prefix-preserved : goal.loop-prefix-preserved
loop-prefix-preserved c =
    let items = c.prefixes-prefix-items.result.now in
    let whole = c.args.whole.now in
    let x = c.prefix-item.result in
    let at : slice_get items c.loop-prefix.prefix-index ≡ Some x = slice_get-get_or items c.loop-prefix.prefix-index x c.loop-prefix-test.true ∙ ap Some (sym c.prefix-item.is) in
    let before = c.loop-prefix.invariant.there in
    elim c.if-holds.branch [
      | then-holds+in_ok-announce_prefix w ↦
          let held = sym c.holds.ensures ∙ w.if-holds.true in
          let done = w.in_ok-announce_prefix.ensures in
          let new = w.announce_prefix.new.part in
          let are : IsPart c.args.addr whole new = done.grown.part c.args.addr held c.loop-prefix.invariant.part in
          record {
            part = subst (IsPart c.args.addr whole) (sym w.part-is) are;
            leakers = ap (λ (t : Plan). t.leakers) w.part-is ∙ w.announce_prefix.ensures.leakers ∙ c.loop-prefix.invariant.leakers;
            there = subst (λ (t : Plan). (i : ℕ) (p : PrefixValue) → i < c.loop-prefix.prefix-index + 1 → slice_get items i ≡ Some p → HasAll c.args.addr whole t p) (sym w.part-is)
                (next_held c.args.addr whole items c.loop-prefix.prefix-index x at c.loop-prefix.part before new are done.grown.more (done.there c.args.addr held c.loop-prefix.invariant.part));
          }
      | else-holds w ↦
          record {
            part = subst (IsPart c.args.addr whole) (sym w.part-is) c.loop-prefix.invariant.part;
            leakers = ap (λ (t : Plan). t.leakers) w.part-is ∙ c.loop-prefix.invariant.leakers;
            there = subst (λ (t : Plan). (i : ℕ) (p : PrefixValue) → i < c.loop-prefix.prefix-index + 1 → slice_get items i ≡ Some p → HasAll c.args.addr whole t p) (sym w.part-is)
                (next_away c.args.addr whole items c.loop-prefix.prefix-index x at c.loop-prefix.part before (sym c.holds.ensures ∙ w.if-holds.false));
          }
    ]

pub returns-clause-there : goal.returns-clause-there
returns-clause-there c =
    let is = c.prefixes-prefix-items.ensures in
    all_held c.args.addr c.args.whole.now c.loop-prefix.part c.loop-prefix.prefix-index c.plans_are_sound.ensures c.loop-prefix.invariant.part
    (subst (λ (xs : List PrefixValue). length xs ≤ c.loop-prefix.prefix-index) is c.loop-prefix-test.false)
    (λ i p less at. c.loop-prefix.invariant.there i p less (ap (λ xs. slice_get xs i) is ∙ at))
