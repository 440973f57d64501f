use Rattle.sim_core.proofs.Differences.{one_edit_count}
use Rattle.sim_core.proofs.Reasons.{one_reason}
use Rattle.sim_core.proofs.Replies.{one_answer}
use Rattle.asprop_run.proofs.OneText.{one_text}
use Rattle.asprop_run.proofs.laws.answers_are_one_text.Goals as goal

pub returns : goal.returns
returns c = one_text (λ w k l q s t x y. one_answer w k l x y q s t) one_edit_count one_reason c.one_answer.ensures c.one_verdict.ensures c.one_swept_text.ensures
