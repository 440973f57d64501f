use Rattle.std.proofs.Common.{◌∙◌}
use Rattle.std.proofs.lemmas.List.{get_or_read}
use Rattle.as_graph.specs.Topology.{relation}
use Rattle.cycle_check.specs.Providers.{provider_places}
use Rattle.cycle_check.proofs.Filling.{providers_at}
use Rattle.cycle_check.proofs.provider_rows.put_row.Goals as goal

pub returns : goal.returns
returns c =
    let g = c.args.graph.now in
    let ases = c.args.ases.now in
    let ns = c.neighbours_near-neighbours.result.now in
    let a = c.index-ases-place.result in
    let sound = c.links_are_sound.ensures in
    let is = get_or_read ases c.args.place a c.requires.place c.index-ases-place.is 0 in (
      provider_places ases ns,
      c.in_ok-put_all.ensures,
      providers_at (relation g) (sound.alike g) ases c.requires.ases.rising (λ x y r e. c.requires.ases.listed y ∙ sound.ends g x y r e) c.args.place a ns is c.neighbours_near-neighbours.ensures,
    )
