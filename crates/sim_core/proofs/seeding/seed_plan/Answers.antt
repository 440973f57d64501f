use Rattle.std.proofs.Common.{◌≡◌, ◌∙◌, ◌+◌, ◌<◌, ◌++◌, ap, subst, sym, length, get_or, take, [], List, ℕ, arith}
use Rattle.sim_core.proofs.Plans.{leaks_from, leaks_in, leaks_more, planned}
use Rattle.sim_core.proofs.seeding.seed_plan.Goals as goal

pub loop-leakers-preserved : goal.loop-leakers-preserved
loop-leakers-preserved c =
    let items = c.leaks-leakers-items.ensures.value in
    let announced = c.args.scenario.now.announcements in
    let i = c.loop-leakers.leakers-index in
    record {
      round = omega (arith, c.loop-leakers.invariant.round);
      plan = subst (λ (ls : List (List ℕ)). c.leak_all.new.plan ≡ planned announced (leaks_from 2 (take (i + 1) ls))) (sym items)
          (leaks_more announced c.args.scenario.now.leaks i c.loop-leakers.round c.leakers-item.result c.leak_all.new.plan
          (subst (λ (ls : List (List ℕ)). i < length ls) items c.loop-leakers-test.true)
          (c.leakers-item.is ∙ ap (λ (ls : List (List ℕ)). get_or ls i c.leakers-item.result) items)
          c.loop-leakers.invariant.round
          (c.in_ok-leak_all.ensures (planned announced []) (leaks_from 2 (take i c.args.scenario.now.leaks)) (c.loop-leakers.invariant.plan ∙ ap (λ (ls : List (List ℕ)). planned announced (leaks_from 2 (take i ls))) items)
          ∙ ap (λ (l : List ℕ). planned announced (leaks_from 2 (take i c.args.scenario.now.leaks) ++ leaks_in c.loop-leakers.round l)) c.as_slice.ensures));
    }
