use Rattle.std.proofs.Common.{refl, sym, ap, ◌∙◌, option_map}
use Rattle.route_choice.specs.Routings.{entry_of}
use Rattle.leak_round.proofs.holders.holder_at.Goals as goal

pub returns : goal.returns
returns c = (refl, (entry_of c.args.pool.now c.in_ok-held.held, ap (option_map (entry_of c.args.pool.now)) (sym c.get_near.ensures ∙ c.in_ok-held.was), sym c.length.ensures.value))
