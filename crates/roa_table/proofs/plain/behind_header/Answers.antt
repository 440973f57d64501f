use Rattle.std.proofs.Common.{◌≡◌, ◌<◌, ◌∙◌, false, get_or, length, rules, sym}
use Rattle.roa_table.specs.Plain.{stops_line}
use Rattle.roa_table.proofs.PlainRows.{behind_header}
use Rattle.roa_table.proofs.plain.behind_header.Goals as goal

pub returns : goal.returns
returns c =
    let some : 0 < length c.args.text.now = search rules in
    let plain : stops_line (get_or c.args.text.now 0 0) ≡ false = sym c.stops_line.ensures ∙ c.if-stops_line.false in
    behind_header c.args.text.now c.in_ok-left.left.now some c.if-text.false plain c.in_ok-left.ensures
