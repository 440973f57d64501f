use Rattle.std.proofs.Common.{◌≡◌, ◌++◌, take}
use Rattle.std.specs.List.{flat_map}
use Rattle.data_trace.specs.Views.{rows_of}
use Rattle.reports.specs.Groups.{printed_text}
use Rattle.reports.proofs.report.append_groups.Given as goal

abbrev pub invariant-loop-group : goal.invariant-loop-group
invariant-loop-group l = l.out.items ≡ l.fn.out.items ++ flat_map (printed_text (rows_of l.watch) l.announcers) (take l.group-index l.groups)
