use Rattle.std.proofs.Common.{refl}
use Rattle.topo_gen.specs.Lines.{drawn_lines}
use Rattle.topo_gen.proofs.lines.generate_lines.Goals as goal

pub returns : goal.returns
unfolding drawn_lines
returns c = rw (
  c.in_ok-push_report-5.ensures,
  c.in_ok-push_all_edits.ensures,
  c.in_ok-push_report-4.ensures,
  c.in_ok-push_report-3.ensures,
  c.in_ok-push_report-2.ensures,
  c.in_ok-push_report.ensures,
  c.new-lines.ensures,
  c.low_addr.ensures,
  c.high_addr.ensures,
  c.low_addr-2.ensures,
  c.high_addr-2.ensures,
  c.low_addr-3.ensures,
) refl
