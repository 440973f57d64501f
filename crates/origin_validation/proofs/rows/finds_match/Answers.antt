use Rattle.std.proofs.Common.{◌≡◌, ◌≤◌, ◌+◌, ap, subst, sym, ◌∙◌, arith}
use Rattle.net_names.specs.Addresses.{width}
use Rattle.origin_validation.specs.Leaving.{stands}
use Rattle.origin_validation.proofs.Searching.{one_matches, none_matches}
use Rattle.origin_validation.proofs.rows.finds_match.Goals as goal

pub returns-then-stands : goal.returns-then-stands
returns-then-stands c =
    let low : c.args.prefix.len ≤ c.loop-max.max = subst (λ n. n ≤ c.loop-max.max) c.len-max.ensures c.loop-max.auto.max in
    sym (one_matches c.args.vrps.now c.args.but.now c.args.outer c.args.prefix c.args.origin c.requires.positive c.loop-max.max low
    (ap (stands c.args.vrps.now c.args.but.now) (sym c.new.ensures) ∙ sym c.stands.ensures ∙ c.if-stands.true))

pub returns : goal.returns
returns c =
    let end : c.width-max-end.result ≡ width c.args.outer.family = c.width-max-end.ensures ∙ ap width c.family.ensures in
    let high : width c.args.outer.family + 1 ≤ c.loop-max.max = subst (λ n. n + 1 ≤ c.loop-max.max) end c.loop-max-test.false in
    sym (none_matches c.args.vrps.now c.args.but.now c.args.outer c.args.prefix c.args.origin c.requires.positive c.are_sound.ensures c.requires.shorter
    (λ m le lt. c.loop-max.invariant m le (omega (arith, lt, high))))
