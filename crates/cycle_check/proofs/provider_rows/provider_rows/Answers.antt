use Rattle.std.proofs.Common.{◌∙◌}
use Rattle.as_graph.specs.Topology.{relation}
use Rattle.cycle_check.proofs.Filling.{filled_rows, filled_providers}
use Rattle.cycle_check.proofs.provider_rows.provider_rows.Goals as goal

pub returns-clause-rows : goal.returns-clause-rows
returns-clause-rows c =
    let g = c.args.graph.now in
    let sound = c.links_are_sound.ensures in
    let rows = c.in_ok-filled.field-0 in
    filled_rows (relation g) (sound.alike g) c.args.ases.now c.requires.ases.rising (λ x y r e. c.requires.ases.listed y ∙ sound.ends g x y r e) rows.starts.items rows.items.items (sound.to_itself g) c.requires.few c.in_ok-filled.ensures

pub returns-clause-providers : goal.returns-clause-providers
returns-clause-providers c =
    let g = c.args.graph.now in
    let sound = c.links_are_sound.ensures in
    let rows = c.in_ok-filled.field-0 in
    filled_providers (relation g) (sound.alike g) c.args.ases.now c.requires.ases.rising (λ x y r e. c.requires.ases.listed y ∙ sound.ends g x y r e) rows.starts.items rows.items.items c.in_ok-filled.ensures
