use Rattle.std.proofs.Common.{◌≢◌, ◌+◌, ap, subst, sym, arith}
use Rattle.std.specs.List.{AllPairs}
use Rattle.leak_round.specs.Limits.{IsWithinLimits}
use Rattle.sim_core.proofs.Loads.{marks_are, world_is}
use Rattle.sim_core.proofs.Plans.{kinds_are_other}
use Rattle.sim_core.proofs.Within.{within}
use Rattle.sim_core.proofs.loading.base_of.Goals as goal

pub invariant_of-result : goal.invariant_of-result
invariant_of-result c = record {
  named = marks_are c.args.graph.links c.args.vrps c.args.scenario.now c.args.graph c.in_ok-book.book c.in_ok-plan.plan _ c.requires c.in_ok-book.ensures.named c.in_ok-plan.ensures (ap (λ n. n + 1) c.leak_lists.ensures.value) c.in_ok-watched.watched.items c.in_ok-watched.ensures.value;
  plain = c.in_ok-book.ensures.rest;
  other = kinds_are_other c.args.scenario.now.policies c.in_ok-book.book.named c.in_ok-book.ensures.named;
  small = subst IsWithinLimits (sym c.in_ok-plan.ensures) (within c.args.scenario.now c.leak_lists.ensures.scenario);
  few = omega (arith, c.leak_lists.ensures.value, c.leak_lists.ensures.scenario.few_rounds);
  once = subst (AllPairs (λ a b. a ≢ b)) (sym c.in_ok-watched.ensures.value) c.in_ok-watched.ensures.once;
}

pub returns-clause-world : goal.returns-clause-world
returns-clause-world c =
    world_is c.args.graph.links c.args.vrps c.args.scenario.now c.args.graph c.in_ok-book.book c.in_ok-plan.plan _ c.requires c.in_ok-book.ensures.named c.in_ok-plan.ensures (ap (λ n. n + 1) c.leak_lists.ensures.value) c.in_ok-watched.watched.items c.in_ok-watched.ensures.value
