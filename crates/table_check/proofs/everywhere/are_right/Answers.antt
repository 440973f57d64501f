use Rattle.std.proofs.Common.{◌≡◌, ℕ, ◌+◌, ◌==◌, ◌∷◌, ◌++◌, [], inl, inr, true, sym, ap, subst, ◌∙◌, take, take_all}
use Rattle.std.specs.FinMap as map
use Rattle.std.proofs.lemmas.Bool.{eqb-true, or_cases}
use Rattle.std.proofs.lemmas.List.{take_more}
use Rattle.net_names.specs.Numbers.{occurs}
use Rattle.stability_laws.proofs.Leaking.{occurs_more}
use Rattle.stability_laws.specs.Stable.{IsRight}
use Rattle.stability_laws.specs.World.{setting}
use Rattle.table_check.specs.Rows.{held_by}
use Rattle.table_check.proofs.everywhere.are_right.Goals as goal

pub loop-asn-preserved : goal.loop-asn-preserved
loop-asn-preserved g c = λ a there.
    let here = setting g.P.RoutePolicy.meaning c.args.world.now.graph.now c.args.world.now.book.now (g.V.OriginStates.state_of c.args.world.now.states.now c.args.prefix) in
    let right : ℕ → Type 0 = IsRight here (map.get c.args.seeds.now) (held_by c.args.placed.now.table.now c.args.placed.now.round) in
    let xs = c.rows-rows.result.now in
    let i = c.loop-asn.asn-index in
    let x = c.asn-item.result in
    let more : take (i + 1) xs ≡ take i xs ++ x ∷ [] = take_more xs i x c.loop-asn-test.true ∙ ap (λ t. take i xs ++ t ∷ []) (sym c.asn-item.is) in
    elim (or_cases (occurs a (take i xs)) (x == a) (sym (occurs_more (take i xs) (take (i + 1) xs) x more a) ∙ there)) [
      | inl before ↦ c.loop-asn.invariant a before
      | inr this ↦ subst right (eqb-true x a this) (c.is_right_near.ensures c.if-not-is_right_near.false)
    ]

pub returns : goal.returns
returns g c = λ yes a is.
    c.loop-asn.invariant a (ap (occurs a) (take_all c.loop-asn.asn-index c.rows-rows.result.now c.loop-asn-test.false) ∙ c.rows-rows.ensures.complete a is)
