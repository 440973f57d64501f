use Rattle.std.proofs.Common.{◌≡◌, ℕ, Some, None, List, ap, subst, refl, arith}
use Rattle.path_pool.specs.declared.pool.PathPool.{PathPool}
use Rattle.stability_laws.specs.declared.seed_plan.edits.SeedEdit.{SeedEdit}
use Rattle.stability_laws.specs.Plans.{Plan}
use Rattle.stability_laws.specs.SeedEdits.{edited, edit_asn}
use Rattle.leak_round.specs.declared.announced.Announced.{Announced}
use Rattle.leak_round.specs.declared.edited.EditedSeeds.{EditedSeeds}
use Rattle.leak_round.specs.Edited.{edit_numbers, AreMade, AreSeedsOf, IsEdited}
use Rattle.leak_round.specs.OwnSeeds.{AreOwn}
use Rattle.leak_round.proofs.Keeping.{keeps_itself}

one_edit : (old new : PathPool) (plan : Plan) (xs : List Announced) (edit : SeedEdit) (e : EditedSeeds) → AreMade old new plan (edited plan edit) xs (edit_asn edit) (edit_numbers edit) e → IsEdited old new plan xs (Some edit) (Some e)
one_edit old new plan xs edit e made = record {
  seeds = λ o same. (let one : e ≡ o = cc in subst (AreSeedsOf new plan) one made.seeds);
  plan_is = made.plan_is;
  asn_is = ap (λ (a : ℕ). Some a) made.asn_is;
  numbers_is = made.numbers_is;
  few = made.few;
  others = made.others;
  own = λ o same. (let one : e ≡ o = cc in subst (λ (s : EditedSeeds). AreOwn s.announced.items s.prefix s.own) one made.own);
  holds = made.held.holds;
  keeps = made.held.keeps;
  cells = made.held.cells;
  counts = made.held.counts;
}

no_edit : (pool : PathPool) (plan : Plan) (xs : List Announced) → IsEdited pool pool plan xs None None
no_edit pool plan xs = record {
  seeds = λ o same. cc;
  plan_is = refl;
  asn_is = refl;
  numbers_is = refl;
  few = omega arith;
  others = λ p other a. refl;
  own = λ o same. cc;
  holds = λ k. omega arith;
  keeps = keeps_itself pool;
  cells = omega arith;
  counts = λ k. omega arith;
}
