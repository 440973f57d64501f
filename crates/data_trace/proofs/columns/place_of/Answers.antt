use Rattle.std.proofs.Common.{sym, ◌∙◌, ap, true≢false}
use Rattle.data_trace.specs.declared.kinds.Hop.TheVariants.{To}
use Rattle.data_trace.proofs.Placing.{found_at}
use Rattle.data_trace.proofs.columns.place_of.Goals as goal

pub unreachable-requires : goal.unreachable-requires
unreachable-requires c = true≢false (sym (c.requires.among c.in-To.asn c.in-To.is) ∙ c.in-None.ensures.none)

pub returns-in-Some-clause-named : goal.returns-in-Some-clause-named
returns-in-Some-clause-named c = ap To (found_at c.args.ases.now.ases c.in-To.asn c.in-Some.place c.in-Some.ensures.found).1 ∙ sym c.in-To.is
