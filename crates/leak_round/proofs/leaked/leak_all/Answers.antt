use Rattle.std.proofs.Common.{◌≡◌, ◌-◌, Some, refl, ap, ◌∙◌, arith}
use Rattle.std.specs.Prelude.{slice_get}
use Rattle.std.proofs.lemmas.List.{take_all}
use Rattle.std.proofs.lemmas.Option.{slice_get_read}
use Rattle.net_names.specs.Numbers.{occurs}
use Rattle.route_choice.specs.Tables.{seed_at}
use Rattle.stability_laws.proofs.Leaking.{leaked_more}
use Rattle.leak_round.specs.Leaked.{own_or_leaked}
use Rattle.leak_round.specs.Overlays.{held_with}
use Rattle.leak_round.proofs.Leaking.{leaked_again}
use Rattle.leak_round.proofs.leaked.leak_all.Goals as goal

pub leakers-preserved : goal.leakers-preserved
leakers-preserved c =
    let xs = c.leakers-leakers.result.now in
    let at : slice_get xs c.leakers.asn-index ≡ Some c.asn-item.result = slice_get_read xs _ c.leakers.asn-index c.asn-item.result refl c.leakers-test.true c.asn-item.is in
    leaked_more own_or_leaked leaked_again (seed_at c.args.seeds.now) (seed_at c.leakers.seeds) (seed_at c.leak.new.seeds) (held_with c.args.tables.now c.args.changes.now (c.args.round - 1) c.args.prefix) xs c.leakers.asn-index c.asn-item.result at c.leakers.invariant c.in_ok-leak.ensures.this c.in_ok-leak.ensures.others

pub returns : goal.returns
returns c = λ a.
    let xs = c.leakers-leakers.result.now in
    c.leakers.invariant a
    ∙ ap (λ b. own_or_leaked (seed_at c.args.seeds.now a) b (held_with c.args.tables.now c.args.changes.now (c.args.round - 1) c.args.prefix a))
    (ap (occurs a) (take_all c.leakers.asn-index xs (omega arith)) ∙ c.leakers-leakers.ensures.who a)
