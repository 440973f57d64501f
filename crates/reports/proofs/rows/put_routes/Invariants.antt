use Rattle.std.proofs.Common.{◌≡◌, ◌++◌, take}
use Rattle.std.specs.List.{flat_map}
use Rattle.route_choice.specs.Routings.{table_routing}
use Rattle.stability_laws.specs.EntryTexts.{entry_row}
use Rattle.reports.proofs.rows.put_routes.Given as goal

abbrev pub invariant-loop-place : goal.invariant-loop-place
invariant-loop-place l = l.out.items ≡ l.fn.out.items ++ flat_map (λ a. entry_row a (table_routing l.pool l.table a)) (take l.place l.ases)
