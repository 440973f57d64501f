use Rattle.std.proofs.Common.{◌+◌, Some, List, length, refl, sym, ap, subst, ◌∙◌, arith}
use Rattle.std.specs.Prelude.{slice_get}
use Rattle.path_pool.specs.Pool.{holds_of}
use Rattle.leak_round.specs.declared.announced.Announced.{Announced}
use Rattle.leak_round.specs.declared.edited.EditedSeeds.{EditedSeeds}
use Rattle.leak_round.specs.Announced.{announced_uses}
use Rattle.leak_round.specs.OwnSeeds.{AreOthersKept, AreOwn}
use Rattle.leak_round.specs.Limits.{IsWithinLimits}
use Rattle.leak_round.proofs.Editing.{announced_without, left_fit, seeds_without}
use Rattle.leak_round.proofs.Owning.{others_without}
use Rattle.leak_round.proofs.edited.withdraw.Goals as goal

pub hold_all-requires-clause-live : goal.hold_all-requires-clause-live
hold_all-requires-clause-live c = λ place x at.
    ((announced_without c.args.prefix c.args.asn c.args.pool.now c.args.plan.now c.args.announced.now c.requires.room.announced c.requires.known).each place x (sym (ap (λ (ys : List Announced). slice_get ys place) (c.as_slice-2.ensures.value ∙ c.in_ok-others.ensures)) ∙ at)).0

pub hold_all-requires-clause-counts : goal.hold_all-requires-clause-counts
hold_all-requires-clause-counts c =
    let few = left_fit c.args.pool.now c.args.plan.now c.args.announced.now c.requires.room.announced c.args.prefix c.args.asn c.requires.known (subst IsWithinLimits c.requires.after c.requires.limits) in
    λ k. omega (arith, few, ap (λ (ys : List Announced). length ys) (c.as_slice-2.ensures.value ∙ c.in_ok-others.ensures), c.requires.room.counts k)

pub returns-clause-made : goal.returns-clause-made
returns-clause-made c =
    let old = c.args.pool.now in
    let held = c.hold_all.ensures in
    let few = left_fit old c.args.plan.now c.args.announced.now c.requires.room.announced c.args.prefix c.args.asn c.requires.known (subst IsWithinLimits c.requires.after c.requires.limits) in
    let e : EditedSeeds = record { plan = c.args.after; announced = c.in_ok-others.others; own = c.in_ok-own.own; prefix = c.args.prefix; asn = c.args.asn; numbers = 0 } in
    record {
      seeds = seeds_without old c.hold_all.new.pool c.args.plan.now c.args.announced.now c.requires.room.announced held.keeps c.args.prefix c.requires.known e c.requires.limits c.args.asn c.in_ok-others.ensures c.requires.after;
      plan_is = refl;
      asn_is = refl;
      numbers_is = refl;
      few = omega arith;
      others = subst (AreOthersKept (Some c.args.prefix) c.args.announced.now) (sym c.in_ok-others.ensures) (others_without c.args.prefix c.args.asn c.args.announced.now);
      own = subst (λ (zs : List Announced). AreOwn zs c.args.prefix c.in_ok-own.own) c.as_slice.ensures.value c.in_ok-own.ensures;
      held = record {
        holds = λ k. held.holds k ∙ ap (λ (ys : List Announced). holds_of old k + announced_uses ys k) c.as_slice-2.ensures.value;
        keeps = held.keeps;
        cells = omega (arith, held.cells);
        counts = λ k. omega (arith, held.counts k, few, ap (λ (ys : List Announced). length ys) (c.as_slice-2.ensures.value ∙ c.in_ok-others.ensures));
      };
    }
