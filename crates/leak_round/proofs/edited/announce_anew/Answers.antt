use Rattle.std.proofs.Common.{◌≡◌, ℕ, Result, Ok, Err, List, length, refl, sym, ap, subst, ◌∙◌, arith}
use Rattle.std.specs.Prelude.{slice_get, OnErr}
use Rattle.path_pool.specs.declared.pool.PathPool.{PathPool}
use Rattle.path_pool.specs.Pool.{holds_of}
use Rattle.stability_laws.specs.Plans.{announcer_of}
use Rattle.stability_laws.proofs.PlanEdits.{announcer_is}
use Rattle.route_choice.proofs.Lists.{held_live}
use Rattle.dirty_recompute.specs.Resources.{IsUndone}
use Rattle.leak_round.specs.Announced.{announced_uses}
use Rattle.leak_round.specs.declared.announced.Announced.{Announced}
use Rattle.leak_round.specs.declared.edited.EditedSeeds.{EditedSeeds}
use Rattle.leak_round.specs.Edited.{others_of, AreHeldToo, AreMade, EndsWithPath}
use Rattle.leak_round.specs.Limits.{IsWithinLimits}
use Rattle.leak_round.specs.OwnSeeds.{AreOwn}
use Rattle.leak_round.proofs.Editing.{announced_without, others_fit, seeds_instead}
use Rattle.leak_round.proofs.Owning.{others_instead}
use Rattle.leak_round.proofs.edited.announce_anew.Goals as goal

pub add_path-requires-clause-live : goal.add_path-requires-clause-live
add_path-requires-clause-live c = λ place x at.
    ((announced_without c.args.prefix c.index-numbers-0.result c.args.pool.now c.args.plan.now c.args.announced.now c.requires.room.announced c.requires.known).each place x (sym (ap (λ (ys : List Announced). slice_get ys place) c.in_ok-others.ensures) ∙ at)).0

pub add_path-requires-clause-few : goal.add_path-requires-clause-few
add_path-requires-clause-few c =
    let first = announcer_is c.args.path.now c.as_slice-numbers.result.now c.index-numbers-0.result c.requires.some c.as_slice-numbers.ensures c.index-numbers-0.is in
    let are = c.in_ok-others.ensures ∙ ap (λ a. others_of c.args.prefix a c.args.announced.now) first in
    let fit = others_fit c.args.pool.now c.args.plan.now c.args.announced.now c.requires.room.announced c.args.prefix c.args.path.now c.requires.known (subst IsWithinLimits c.requires.after c.requires.limits) in
    omega (arith, fit, ap (λ (ys : List Announced). length ys) are)

pub add_path-requires-clause-room : goal.add_path-requires-clause-room
add_path-requires-clause-room c = omega (arith, c.requires.short, c.requires.room.room)

pub seeds_or_release-requires : goal.seeds_or_release-requires
seeds_or_release-requires c = λ k. omega (arith, c.in_ok-add_path.ensures.held.holds k, ap (λ (ys : List Announced). announced_uses ys k) c.as_slice.ensures.value)

-- what holds anyway holds at an error
at_error : {T E P : Type 0} (r : Result T E) → P → OnErr r P
at_error (Ok x) holds = tt
at_error (Err e) holds = holds

pub returns-in_err-own-clause-err : goal.returns-in_err-own-clause-err
returns-in_err-own-clause-err c =
    let held = c.in_ok-add_path.ensures.held in
    let back = c.in_err-own.ensures.back in
    let new = c.seeds_or_release.new.pool in
    let same : (k : ℕ) → holds_of new k ≡ holds_of c.args.pool.now k = λ k. omega (arith, held.holds k, c.in_err-own.ensures.holds k, ap (λ (ys : List Announced). announced_uses ys k) c.as_slice.ensures.value) in
    let undone : IsUndone c.args.pool.now new = record {
      holds = same;
      held_live = λ k some. held_live new k (omega (arith, some, same k));
      lists = λ k was is. back.lists k is ∙ held.keeps.lists k was;
    } in
    at_error c.from_residual-in_err-own.result undone

pub returns-clause-made : goal.returns-clause-made
returns-clause-made c =
    let old = c.args.pool.now in
    let new = c.add_path.new.pool in
    let numbers = c.as_slice-numbers.result.now in
    let first = announcer_is c.args.path.now numbers c.index-numbers-0.result c.requires.some c.as_slice-numbers.ensures c.index-numbers-0.is in
    let are = c.in_ok-others.ensures ∙ ap (λ a. others_of c.args.prefix a c.args.announced.now) first in
    let e : EditedSeeds = record { plan = c.args.after; announced = c.add_path.new.announced; own = c.in_ok-own.own; prefix = c.args.prefix; asn = c.index-numbers-0.result; numbers = length numbers } in
    let made : AreMade old new c.args.plan.now c.args.after c.args.announced.now (announcer_of c.args.path.now) (length c.args.path.now) e = record {
      seeds = seeds_instead old new c.args.plan.now c.args.announced.now c.requires.room.announced c.in_ok-add_path.ensures.held.keeps c.args.prefix c.requires.known e c.requires.limits c.args.path.now c.in_ok-others.others.items are c.requires.after c.in_ok-add_path.ensures.last;
      plan_is = refl;
      asn_is = first;
      numbers_is = ap length c.as_slice-numbers.ensures;
      few = omega (arith, c.requires.short, ap length c.as_slice-numbers.ensures);
      others = others_instead new c.args.prefix c.args.path.now c.index-numbers-0.result c.args.announced.now e.announced.items
          (subst (λ (zs : List Announced). EndsWithPath new c.args.prefix c.args.path.now zs e.announced.items) c.in_ok-others.ensures c.in_ok-add_path.ensures.last);
      own = subst (λ (zs : List Announced). AreOwn zs c.args.prefix c.in_ok-own.own) c.as_slice.ensures.value c.in_ok-own.ensures.own;
      held = subst (AreHeldToo old new c.add_path.new.announced.items) (sym (ap length c.as_slice-numbers.ensures)) c.in_ok-add_path.ensures.held;
    } in
    subst (λ (q : PathPool). AreMade old q c.args.plan.now c.args.after c.args.announced.now (announcer_of c.args.path.now) (length c.args.path.now) e) (sym c.in_ok-own.ensures.ok) made
