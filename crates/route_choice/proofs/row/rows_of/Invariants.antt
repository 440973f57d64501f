use Rattle.std.proofs.Common.{◌≡◌, take}
use Rattle.route_choice.specs.Rows.{empty_rows}
use Rattle.route_choice.proofs.row.rows_of.Given as goal

abbrev pub invariant-loop-asn : goal.invariant-loop-asn
invariant-loop-asn l = l.rows.items ≡ empty_rows (take l.asn-index l.ases)
