use Rattle.trial_world.proofs.tables.rounds_of.Goals as goal

pub returns-clause-rounds : goal.returns-clause-rounds
returns-clause-rounds g c = record {
  plan_is = c.in_ok-rounds.ensures.built.plan;
  count_is = c.in_ok-rounds.ensures.built.count;
  stable = c.in_ok-rounds.ensures.built.stable;
  only = c.in_ok-rounds.ensures.built.only;
}
