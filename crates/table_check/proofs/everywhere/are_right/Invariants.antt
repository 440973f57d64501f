use Rattle.std.proofs.Common.{◌≡◌, ℕ, true, take}
use Rattle.std.specs.FinMap as map
use Rattle.net_names.specs.Numbers.{occurs}
use Rattle.stability_laws.specs.Stable.{IsRight}
use Rattle.stability_laws.specs.World.{setting}
use Rattle.table_check.specs.Rows.{held_by}
use Rattle.table_check.proofs.everywhere.are_right.Given as goal

abbrev pub invariant-loop-asn : goal.invariant-loop-asn
invariant-loop-asn g l =
    let here = setting g.P.RoutePolicy.meaning l.world.graph.now l.world.book.now (g.V.OriginStates.state_of l.world.states.now l.prefix) in
    (a : ℕ) → occurs a (take l.asn-index l.rows) ≡ true → IsRight here (map.get l.seeds) (held_by l.placed.table.now l.placed.round) a
