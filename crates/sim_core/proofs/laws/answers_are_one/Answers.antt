use Rattle.sim_core.proofs.Differences.{one_edit_count}
use Rattle.sim_core.proofs.Reasons.{one_reason}
use Rattle.sim_core.proofs.Replies.{one_answer}
use Rattle.sim_core.proofs.laws.answers_are_one.Goals as goal

pub returns-clause-answer : goal.returns-clause-answer
returns-clause-answer c = λ w k l q s t x y. one_answer w k l x y q s t

pub returns-clause-count : goal.returns-clause-count
returns-clause-count c = one_edit_count

pub returns-clause-reason : goal.returns-clause-reason
returns-clause-reason c = one_reason
