use Rattle.std.proofs.Common.{◌≡◌, ◌+◌, ◌≤◌, length}
use Rattle.net_names.specs.Lines.{kept_from, said_on}
use Rattle.net_names.proofs.lines.put_lines.Given as goal

abbrev pub invariant-lines : goal.invariant-lines
invariant-lines g l = record {
  so_far : said_on g.S.LineByLine.says l.said (kept_from l.number l.rest) ≡ said_on g.S.LineByLine.says l.fn.said (kept_from l.fn.number l.fn.bytes);
  ready : g.S.LineByLine.IsReady l.number l.said;
  first : 1 ≤ l.number;
  room : l.number + length l.rest ≤ l.fn.number + length l.fn.bytes;
}

abbrev pub decreases-lines : goal.decreases-lines
decreases-lines g l = length l.rest
