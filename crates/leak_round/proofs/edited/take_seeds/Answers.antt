use Rattle.std.proofs.Common.{◌≡◌, Option, sym, ap, subst, ◌∙◌}
use Rattle.std.specs.Prelude.{slice_get}
use Rattle.std.specs.FinMap as fin
use Rattle.leak_round.specs.declared.edited.EditedSeeds.{EditedSeeds}
use Rattle.leak_round.specs.Edited.{announced_after, prefix_edited, seeds_after}
use Rattle.leak_round.specs.OwnSeeds.{AreOthersKept}
use Rattle.leak_round.proofs.edited.take_seeds.Goals as goal

pub returns-in-Some-clause-own : goal.returns-in-Some-clause-own
returns-in-Some-clause-own c =
    let plan = c.args.plan.now in
    let xs = c.args.announced.now.items in
    let e = c.in-Some.seeds in
    let same : e.plan.prefixes ≡ plan.prefixes = ap (λ (o : Option EditedSeeds). (seeds_after o plan).prefixes) (sym c.in-Some.is) ∙ c.requires.prefixes in
    let others = subst (λ (o : Option EditedSeeds). AreOthersKept (prefix_edited o) xs (announced_after o xs)) c.in-Some.is c.requires.others in
    let put = c.put_own_seeds.ensures xs e.announced.items c.requires.own others (c.requires.fresh e c.in-Some.is) in
    λ i p s here got. put i p s (ap (λ ks. slice_get (fin.keys ks) i) (sym same) ∙ here) got
