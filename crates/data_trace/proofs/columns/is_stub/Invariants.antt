use Rattle.std.proofs.Common.{◌≡◌, false, take}
use Rattle.std.specs.List.{list_any}
use Rattle.data_trace.specs.Columns.{is_customer}
use Rattle.data_trace.proofs.columns.is_stub.Given as goal

abbrev pub invariant-loop-neighbour : goal.invariant-loop-neighbour
invariant-loop-neighbour l = list_any (λ n. is_customer n.rel) (take l.neighbour-index l.neighbours) ≡ false
