use Rattle.std.proofs.Common.{◌≡◌, ◌++◌, take}
use Rattle.std.specs.List.{flat_map}
use Rattle.data_trace.specs.Views.{rows_of}
use Rattle.reports.specs.Groups.{delivered_text, group_count}
use Rattle.reports.proofs.report.append_all_delivered.Given as goal

abbrev pub invariant-loop-asn : goal.invariant-loop-asn
invariant-loop-asn l = l.out.items ≡ l.fn.out.items ++ flat_map (delivered_text (group_count (rows_of l.watch)) l.group) (take l.asn-index l.announcers)
