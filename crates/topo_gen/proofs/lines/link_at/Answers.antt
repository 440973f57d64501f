use Rattle.std.proofs.Common.{◌≡◌, ◌≤◌, ◌∙◌, ◌*◌, ◌%◌, arith, length, sym}
use Rattle.std.specs.FinMap as map
use Rattle.std.specs.FinMap.{len-entries}
use Rattle.std.proofs.lemmas.Option.{slice_get_past}
use Rattle.topo_gen.proofs.lines.link_at.Goals as goal

pub returns-then-count-eq0-clause-link : goal.returns-then-count-eq0-clause-link
returns-then-count-eq0-clause-link c =
    let none : length (map.entries c.args.links.now) ≡ 0 = sym (len-entries c.args.links.now) ∙ sym c.len-count.ensures.value ∙ c.if-count-eq0.true in
    let past : length (map.entries c.args.links.now) ≤ 37 * c.args.i % map.len c.args.links.now = omega (arith, none) in
    sym (slice_get_past _ _ past)
