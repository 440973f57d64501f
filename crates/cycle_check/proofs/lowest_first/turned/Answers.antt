use Rattle.std.proofs.Common.{◌≡◌, ◌++◌, ℕ, ◌-◌, List, length, take, drop, sym, ◌∙◌, ap, subst}
use Rattle.std.proofs.lemmas.List.{take_rest}
use Rattle.cycle_check.specs.Cycles.{IsTurned}
use Rattle.cycle_check.proofs.Turning.{turned_lowest}
use Rattle.cycle_check.proofs.lowest_first.turned.Goals as goal

pub returns : goal.returns
returns c =
    let xs = c.args.numbers.now in
    let k = c.lowest_place-place.result in
    let low = c.lowest_place-place.ensures in
    let first : c.append.new.list.items ≡ drop k xs = c.in_ok-append.ensures ∙ ap (λ (ys : List ℕ). ys ++ take (length xs - k) (drop k xs)) c.new-turned.ensures.items ∙ take_rest xs k in
    subst (IsTurned xs) (sym (c.in_ok-append-2.ensures ∙ ap (λ (ys : List ℕ). ys ++ take k xs) first)) (turned_lowest xs k low.0 low.1)
