use Rattle.std.proofs.Common.{option_map, sym, ap, ◌∙◌}
use Rattle.route_choice.specs.Routings.{entry_of}
use Rattle.leak_round.proofs.moving.move_entry.Goals as goal

pub moved-held-requires-clause-source : goal.moved-held-requires-clause-source
moved-held-requires-clause-source c = c.requires.source (entry_of c.args.from.now c.in-Some.held) (ap (option_map (entry_of c.args.from.now)) (sym c.get_near.ensures ∙ c.in-Some.is))
