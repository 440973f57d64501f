use Rattle.std.proofs.Common.{not, sym, ◌∙◌, ap}
use Rattle.data_trace.proofs.Naming.{is_end}
use Rattle.data_trace.proofs.columns.is_in.Goals as goal

pub returns-then-not-is_empty : goal.returns-then-not-is_empty
returns-then-not-is_empty c = ap not c.if-not-is_empty.true ∙ sym (is_end c.links_are_sound.ensures c.args.graph.now c.args.asn c.neighbours_near.result.now c.neighbours_near.ensures (sym c.is_empty.ensures ∙ c.if-not-is_empty.true))
