use Rattle.std.proofs.Common.{◌≡◌, Some, length, sym, ap, subst, ◌∙◌, arith}
use Rattle.std.specs.Prelude.{slice_get}
use Rattle.stability_laws.specs.Plans.{prefixes_of}
use Rattle.leak_round.specs.OwnSeeds.{AreOwnSeeds}
use Rattle.leak_round.proofs.Owning.{own_more}
use Rattle.leak_round.proofs.own_seeds.fill_own_seeds.Goals as goal

pub prefixes-preserved : goal.prefixes-preserved
prefixes-preserved c =
    let own = c.prefixes.own.items in
    let at : slice_get (prefixes_of c.args.plan.now) (length own) ≡ Some c.in-Some.prefix = ap (slice_get (prefixes_of c.args.plan.now)) (sym (omega (arith, c.len.ensures, c.prefixes.own.ok.0))) ∙ sym c.in-Some.ensures.value in
    subst (AreOwnSeeds c.args.plan.now c.args.announced.now) (sym c.in_ok-push.ensures.items)
    (own_more c.args.plan.now c.args.announced.now own c.in-Some.prefix c.in_ok-seeds.seeds c.prefixes.invariant at c.in_ok-seeds.ensures)
