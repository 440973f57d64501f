use Rattle.std.proofs.Common.{arith}
use Rattle.std.proofs.lemmas.Result.{err_from_is_err_and}
use Rattle.net_names.proofs.KeptLines.{goes_on, ends, stops}
use Rattle.net_names.proofs.lines.put_lines.Goals as goal

pub returns-in_err-said-clause-gives : goal.returns-in_err-said-clause-gives
returns-in_err-said-clause-gives g c =
    let p = err_from_is_err_and c.from_residual.result c.from_residual.ensures.1 in
    rw (p.1, p.2) (g.met.S.LineByLine.fails_on c.in_err-said.field-0.0 _ _
    (λ fault read. stops g.S.LineByLine.says fault c.lines.said _ _ _ _ c.in-Some.ensures.some read c.lines.invariant.so_far)
    c.in_err-said.ensures.gives)

pub lines-preserved : goal.lines-preserved
lines-preserved g c = record {
  so_far = goes_on g.S.LineByLine.says c.lines.said c.in_ok-said.said _ _ _ _ c.in-Some.ensures.some c.in_ok-said.ensures.gives c.lines.invariant.so_far;
  ready = c.in_ok-said.ensures.ready;
  first = omega arith;
  room = omega (arith, c.lines.invariant.room, c.in-Some.ensures.room);
}

pub returns-clause-gives : goal.returns-clause-gives
returns-clause-gives g c = ends g.S.LineByLine.says c.lines.said _ _ c.in_default.ensures.none c.lines.invariant.so_far
