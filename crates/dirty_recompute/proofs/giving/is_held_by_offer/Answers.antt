use Rattle.std.proofs.Common.{sym, ◌∙◌}
use Rattle.route_choice.proofs.Lists.{joined_live}
use Rattle.dirty_recompute.proofs.giving.is_held_by_offer.Goals as goal

pub is_with_first-requires : goal.is_with_first-requires
is_with_first-requires g c = joined_live c.args.pool.now c.args.at.now.table.now c.args.overlay.now c.requires.held c.args.asn c.in-Some.have (sym c.requires.before ∙ c.in-Some.is)
