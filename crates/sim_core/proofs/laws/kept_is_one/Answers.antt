use Rattle.sim_core.proofs.Replies.{one_kept}
use Rattle.sim_core.proofs.laws.kept_is_one.Goals as goal

pub returns : goal.returns
returns c = one_kept
