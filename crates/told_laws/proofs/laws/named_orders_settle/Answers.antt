use Rattle.std.proofs.Common.{◌∙◌}
use Rattle.asprop_run.proofs.Named.{acts_named}
use Rattle.asprop_run.proofs.Settled.{routes_rows}
use Rattle.told_laws.proofs.Activated.{settled_text}
use Rattle.told_laws.proofs.laws.named_orders_settle.Goals as goal

pub returns : goal.returns
returns c = λ w after later acts pieces height number text routes refused other none inside sound most high enough told asked.
    let there = (acts_named w acts inside).0 in
    settled_text c.any_order_settles.ensures c.kept_are_stable.ensures.only w none acts inside sound pieces height most high enough asked.0 text routes asked.1 told.2
    (asked.4 ∙ routes_rows w asked.0 asked.2 acts.round acts.prefix other later there.0 there.1 asked.3)
