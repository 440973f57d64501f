use Rattle.std.proofs.Common.{◌≡◌, Err, ◌∙◌, ap, arith}
use Rattle.std.specs.FinMap as fin
use Rattle.net_names.specs.Payloads.{vrp_cmp}
use Rattle.topo_gen.proofs.scenario.generate_payloads.Goals as goal

pub unreachable-requires-in-Err-TooMany : goal.unreachable-requires-in-Err-TooMany
unreachable-requires-in-Err-TooMany c =
    let (new, full) = c.add.ensures.too_many.0 (c.in-Err-TooMany.is ∙ ap Err c.in-Err-TooMany.field-0-is) in
    let none : fin.len {R = vrp_cmp} c.new-vrps.result ≡ 0 = ap fin.len c.new-vrps.ensures ∙ fin.len-empty vrp_cmp _ in
    omega (arith, full, none)
