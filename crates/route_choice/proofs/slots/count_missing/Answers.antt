use Rattle.std.proofs.Common.{◌≡◌, ℕ, Bool, not, cond, arith, ap, sym, ◌∙◌}
use Rattle.std.specs.Option.{is_none}
use Rattle.route_choice.specs.Slots.{slot_at}
use Rattle.route_choice.proofs.Uses.{missing_at, missing_from-more}
use Rattle.route_choice.proofs.slots.count_missing.Goals as goal
use Rattle.route_choice.proofs.slots.count_missing.Goals.{then-is_none, else-is_none}

pub loop-place-preserved : goal.loop-place-preserved
loop-place-preserved c =
    let rest = missing_from-more c.args.slots.now c.args.changes.now c.loop-place.place c.in-Some.pair.0 c.in-Some.pair.1 (sym c.in-Some.ensures.entry) in
    let told = c.loop-place.invariant in
    let one : Bool → ℕ = λ b. cond b 1 0 in
    let this : missing_at (slot_at c.args.slots.now c.in-Some.pair.0) ≡ one (not (not c.is_none.result)) = ap one (ap is_none (sym c.get_near.ensures) ∙ ap not c.is_none.ensures) in
    elim c.if-is_none.branch [
      | then-is_none w ↦ record {
        counted = omega (arith, told.counted, rest, w.missing-is, this ∙ ap (λ b. one (not (not b))) w.if-is_none.true);
        few = omega (arith, told.few, w.missing-is);
      }
      | else-is_none w ↦ record {
        counted = omega (arith, told.counted, rest, w.missing-is, this ∙ ap (λ b. one (not (not b))) w.if-is_none.false);
        few = omega (arith, told.few, w.missing-is);
      }
    ]
