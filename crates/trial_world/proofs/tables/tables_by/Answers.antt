use Rattle.std.proofs.Common.{◌∙◌, subst}
use Rattle.origin_validation.specs.Judging.{state_of}
use Rattle.policy_kinds.specs.Kinds.{kind_policy}
use Rattle.stability_laws.specs.Plans.{Plan}
use Rattle.stability_laws.specs.Rounds.{AreRounds}
use Rattle.stability_laws.specs.World.{setting}
use Rattle.leak_round.specs.Rounds.{kept}
use Rattle.trial_world.proofs.Watched.{inside_part}
use Rattle.trial_world.proofs.tables.tables_by.Goals as goal

pub watch_of-requires-clause-line : goal.watch_of-requires-clause-line
watch_of-requires-clause-line c = record {
  closed = c.in_ok-rounds.ensures.closed;
  plan_is = c.in_ok-rounds.ensures.rounds.plan_is ∙ c.in_ok-plan.ensures;
  count_is = c.in_ok-rounds.ensures.rounds.count_is;
}

pub watch_of-requires-clause-inside : goal.watch_of-requires-clause-inside
watch_of-requires-clause-inside c =
    let f = c.args.fixed.now in
    let stable : AreRounds (λ p. setting kind_policy f.graph.now c.args.book.now (state_of f.states.payloads p)) f.plan f.round (kept c.in_ok-rounds.rounds) =
    subst (λ (t : Plan). AreRounds (λ p. setting kind_policy f.graph.now c.args.book.now (state_of f.states.payloads p)) t f.round (kept c.in_ok-rounds.rounds)) c.in_ok-plan.ensures c.in_ok-rounds.ensures.rounds.stable in
    inside_part c.paths_go_on.ensures f.graph.now c.args.book.now f.states.payloads f.plan c.plans_are_sound.ensures f.round c.requires.from (kept c.in_ok-rounds.rounds) stable

pub returns : goal.returns
returns c =
    let f = c.args.fixed.now in
    record {
      line = record {
        closed = c.in_ok-rounds.ensures.closed;
        plan_is = c.in_ok-rounds.ensures.rounds.plan_is ∙ c.in_ok-plan.ensures;
        count_is = c.in_ok-rounds.ensures.rounds.count_is;
      };
      stable = subst (λ (t : Plan). AreRounds (λ p. setting kind_policy f.graph.now c.args.book.now (state_of f.states.payloads p)) t f.round (kept c.in_ok-rounds.rounds)) c.in_ok-plan.ensures c.in_ok-rounds.ensures.rounds.stable;
      addr = c.in_ok-watch.ensures.addr;
      rows = c.in_ok-watch.ensures.rows;
    }
