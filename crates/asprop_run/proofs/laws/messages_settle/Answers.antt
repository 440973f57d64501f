use Rattle.asprop_run.proofs.Delivered.{settled_net_text}
use Rattle.asprop_run.proofs.Named.{deliveries_named}
use Rattle.asprop_run.proofs.Settled.{routes_rows}
use Rattle.std.proofs.Common.{◌∙◌}
use Rattle.asprop_run.proofs.laws.messages_settle.Goals as goal

pub returns : goal.returns
returns c w after later d height number text routes refused other none inside high told asked =
    let there = (deliveries_named w d inside.0).0 in
    settled_net_text c.turns_settle.ensures c.kept_are_stable.ensures.only w none d inside height high asked.0 text routes asked.1 told.2
    (asked.4 ∙ routes_rows w asked.0 asked.2 d.round d.prefix other later there.0 there.1 asked.3)
