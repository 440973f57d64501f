use Rattle.net_names.proofs.KeptLines.{line_cut, line_uncut}
use Rattle.net_names.proofs.lines.next_line.Goals as goal

pub returns-in-Some-clause-lines : goal.returns-in-Some-clause-lines
returns-in-Some-clause-lines c number = rw c.drop_cr.ensures.value (line_cut c.args.bytes.now c.in-Some.line.now c.in-Some.rest.now c.in-Some.ensures number)

pub returns-in-None-clause-lines : goal.returns-in-None-clause-lines
returns-in-None-clause-lines c number = rw c.drop_cr-in-None.ensures.value (line_uncut c.args.bytes.now c.in-None.ensures number)
