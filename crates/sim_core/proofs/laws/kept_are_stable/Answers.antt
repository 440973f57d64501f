use Rattle.sim_core.proofs.Lent.{kept_stable, lent_cycle, lent_ranked, lent_setting, no_other_stable}
use Rattle.sim_core.proofs.laws.kept_are_stable.Goals as goal

pub returns-clause-setting : goal.returns-clause-setting
returns-clause-setting c = lent_setting

pub returns-clause-ranked : goal.returns-clause-ranked
returns-clause-ranked c = lent_ranked

pub returns-clause-no_cycle : goal.returns-clause-no_cycle
returns-clause-no_cycle c = lent_cycle

pub returns-clause-stable : goal.returns-clause-stable
returns-clause-stable c = kept_stable

pub returns-clause-only : goal.returns-clause-only
returns-clause-only c = no_other_stable c.one_stable_routing.ensures
