use Rattle.std.proofs.Common.{sym}
use Rattle.route_choice.specs.Rows.{number_in}
use Rattle.route_choice.proofs.plain.lead_of.Goals as goal

pub length-length-requires : goal.length-length-requires
length-length-requires g c = c.requires c.args.provider (record { class = c.in-Full.class; path = c.in-Full.path; otc = number_in c.in-Full.otc }) (sym c.in-Full.ensures)
