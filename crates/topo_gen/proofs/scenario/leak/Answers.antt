use Rattle.std.proofs.Common.{◌∙◌, ◌+◌, ◌*◌, ◌≤◌, ◌<◌, ◌∷◌, [], arith, ap, length, filter, sym, subst, ◌≢◌, ℕ, List}
use Rattle.std.specs.List.{All}
use Rattle.scenario_text.specs.Scenarios.{last_leakers}
use Rattle.std.proofs.lemmas.Bool.{eq-eqb, ne_eqb}
use Rattle.std.proofs.lemmas.Result.{on_ok_weaker}
use Rattle.std.specs.List.{range_with_len}
use Rattle.topo_gen.proofs.UpTo.{leaks, few, new_leaker, no_more, one_more}
use Rattle.topo_gen.proofs.scenario.leak.Goals as goal

pub returns-then-number-ne50 : goal.returns-then-number-ne50
returns-then-number-ne50 c =
    ap (λ xs. record c.args.scenario.now { leaks = xs }) (c.requires.leaks ∙ ap (λ xs. xs ∷ []) (no_more c.args.k (ne_eqb _ _ c.if-number-ne50.true)))

pub leaker-requires-clause-new : goal.leaker-requires-clause-new
leaker-requires-clause-new c =
    subst (λ (ls : List (List ℕ)). All (λ n. n ≢ c.as_of.result) (last_leakers ls)) (sym c.requires.leaks) (λ j d h is. new_leaker c.args.k j d h (is ∙ c.as_of.ensures))

pub leaker-requires-clause-room : goal.leaker-requires-clause-room
leaker-requires-clause-room c = rw c.requires.leaks (
    let most : length (filter leaks (range_with_len 1 c.args.k)) * 100 ≤ c.args.k + 50 = few c.args.k in
    let below : c.args.k < 5000 = c.requires.few in
    omega (arith, most, below))

pub returns : goal.returns
returns c = on_ok_weaker c.leaker.result (λ h. h ∙ rw (c.requires.leaks, c.as_of.ensures)
    (ap (λ xs. record c.args.scenario.now { leaks = xs ∷ [] }) (one_more c.args.k (eq-eqb _ _ c.if-number-ne50.false)))) c.leaker.ensures.ok
