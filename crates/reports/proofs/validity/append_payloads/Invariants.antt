use Rattle.std.proofs.Common.{◌≡◌, ◌++◌, take}
use Rattle.std.specs.List.{flat_map}
use Rattle.reports.specs.Validity.{payload_row}
use Rattle.reports.proofs.validity.append_payloads.Given as goal

abbrev pub invariant-loop-vrp : goal.invariant-loop-vrp
invariant-loop-vrp l = l.out.items ≡ l.fn.out.items ++ flat_map payload_row (take l.vrp-index l.vrps)
