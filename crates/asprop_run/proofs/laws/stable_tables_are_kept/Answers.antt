use Rattle.asprop_run.proofs.Checked.{kept_where_right}
use Rattle.asprop_run.proofs.laws.stable_tables_are_kept.Goals as goal

pub returns : goal.returns
returns c w after k t text refused none kept inside told = kept_where_right c.accepted_are_rounds.ensures w k t none kept inside refused text told.1
