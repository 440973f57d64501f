use Rattle.std.proofs.Common.{◌∙◌, arith}
use Rattle.data_trace.specs.Watches.{in_group}
use Rattle.data_trace.proofs.Rows.{few_counted, counted_rows}
use Rattle.data_trace.proofs.watch.Watch.ases.Goals as goal

pub size-requires : goal.size-requires
size-requires c = let w = c.args.self.now in few_counted w.columns.sums w.ases.ases w.columns.hops.items w.columns.marks.items w.columns.groups.items (omega (arith, w.few)) w.counted

pub returns : goal.returns
returns c = let w = c.args.self.now in c.size.ensures ∙ counted_rows w.columns.sums w.ases.ases w.columns.hops.items w.columns.marks.items w.columns.groups.items (λ e s l. in_group c.args.which s l) w.hops_len w.ends w.counted
