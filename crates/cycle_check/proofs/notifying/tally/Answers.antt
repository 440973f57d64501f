use Rattle.std.proofs.Common.{◌≡◌, inl, inr, ◌+◌, ◌<◌, [], ◌∷◌, length, get_or, take, arith, ap, sym, ◌∙◌, length-set, get_or-set_other}
use Rattle.std.proofs.lemmas.Bool.{cases_eq}
use Rattle.std.proofs.lemmas.List.{take_more, length-take-le}
use Rattle.std.proofs.lemmas.Grind.{get_or-set_at}
use Rattle.cycle_check.specs.Stages.{times}
use Rattle.cycle_check.proofs.Tallies.{times_append, times_same, times_other, times_le}
use Rattle.cycle_check.proofs.notifying.tally.Goals as goal

pub overflow_add-counts : goal.overflow_add-counts
overflow_add-counts c =
    let i = c.loop-place.place-index in
    let q = get_or c.args.items.now i 0 in
    let inside = c.requires.within i c.loop-place-test.true in
    let is = c.loop-place.invariant q (omega (arith, inside, c.loop-place.auto.counts)) in
    let most = times_le q (take i c.args.items.now) in
    let long = length-take-le i c.args.items.now (omega arith) in
    omega (arith, is, most, long)

pub loop-place-preserved : goal.loop-place-preserved
loop-place-preserved c = λ p less. (
    let i = c.loop-place.place-index in
    let items = c.args.items.now in
    let counts = c.loop-place.counts in
    let q = get_or items i 0 in
    let within = c.requires.within i c.loop-place-test.true in
    let inside : q < length counts = omega (arith, within, c.loop-place.auto.counts) in
    let parts : times p (take (i + 1) items) ≡ times p (take i items) + times p (q ∷ []) = ap (times p) (take_more items i 0 c.loop-place-test.true) ∙ times_append p (take i items) (q ∷ []) in
    let old = c.loop-place.invariant p (omega (arith, less, length-set counts q (get_or counts q 0 + 1))) in
    elim (cases_eq p q) [
      | inl e ↦ (
          let at = get_or-set_at counts q p (get_or counts q 0 + 1) 0 e inside in
          let of : get_or counts p 0 ≡ get_or counts q 0 = ap (λ x. get_or counts x 0) e in
          let one = times_same p q [] (sym e) in
          omega (arith, parts, old, at, of, one))
      | inr ne ↦ (
          let at = get_or-set_other counts q p (get_or counts q 0 + 1) 0 ne in
          let none = times_other p q [] (λ e. ne (sym e)) in
          omega (arith, parts, old, at, none))
    ])
