use Rattle.std.proofs.Common.{◌&&◌, ◌∙◌, arith}
use Rattle.data_trace.specs.Watches.{in_group, is_end}
use Rattle.data_trace.proofs.Rows.{few_counted, counted_rows}
use Rattle.data_trace.proofs.watch.Watch.count.Goals as goal

pub count-requires : goal.count-requires
count-requires c = let w = c.args.self.now in few_counted w.columns.sums w.ases.ases w.columns.hops.items w.columns.marks.items w.columns.groups.items (omega (arith, w.few)) w.counted

pub returns : goal.returns
returns c = let w = c.args.self.now in c.count.ensures ∙ counted_rows w.columns.sums w.ases.ases w.columns.hops.items w.columns.marks.items w.columns.groups.items (λ e s l. in_group c.args.which s l && is_end e c.args.end) w.hops_len w.ends w.counted
