use Rattle.std.proofs.Common.{inl, inr, refl, true, false, arith}
use Rattle.as_graph.specs.Hierarchy.{HasNoProviderCycle}
use Rattle.cycle_check.specs.Cycles.{with_provider}
use Rattle.cycle_check.proofs.Ending.{running_first, few_steps, up_ended, down_ended}
use Rattle.cycle_check.proofs.closing.closes.Goals as goal

pub loop-pair-init : goal.loop-pair-init
loop-pair-init c = record {
  up = running_first c.args.graph.now c.args.provider c.args.customer c.requires.differ true c.in_ok-up.up c.in_ok-up.ensures.one c.in_ok-up.ensures.unique c.in_ok-up.ensures.up c.in_ok-up.ensures.done;
  down = running_first c.args.graph.now c.args.provider c.args.customer c.requires.differ false c.in_ok-down.down c.in_ok-down.ensures.one c.in_ok-down.ensures.unique c.in_ok-down.ensures.up c.in_ok-down.ensures.done;
}

pub loop-pair-smaller : goal.loop-pair-smaller
loop-pair-smaller c =
    omega (arith, few_steps c.args.graph.now c.args.provider c.args.customer c.requires.differ true c.loop-pair.up c.loop-pair.invariant.up, few_steps c.args.graph.now c.args.provider c.args.customer c.requires.differ false c.loop-pair.down c.loop-pair.invariant.down, c.are_open.ensures.up c.loop-pair-test.true, c.are_open.ensures.down c.loop-pair-test.true, c.in_ok-found.ensures.done)

pub returns-clause-none : goal.returns-clause-none
returns-clause-none c =
    let none : HasNoProviderCycle (with_provider c.args.graph.now c.args.provider c.args.customer) = elim (c.are_open.ensures.ended c.loop-pair-test.false) [
      | inl e ↦ up_ended c.args.graph.now c.args.provider c.args.customer c.requires.differ c.requires.without c.loop-pair.up c.loop-pair.invariant.up e
      | inr e ↦ down_ended c.args.graph.now c.args.provider c.args.customer c.requires.differ c.requires.without c.loop-pair.down c.loop-pair.invariant.down e
    ] in
    (λ _. none, λ _. refl)
