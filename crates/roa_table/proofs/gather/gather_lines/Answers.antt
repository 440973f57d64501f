use Rattle.std.proofs.lemmas.Result.{err_from_is_err_and}
use Rattle.csv.specs.declared.parser.State.TheVariants as st
use Rattle.roa_table.specs.Standing.{records_left}
use Rattle.roa_table.proofs.Reading.{start_gathering, line_gathered, line_stopped}
use Rattle.roa_table.proofs.gather.gather_lines.Goals as goal

pub loop-row-init : goal.loop-row-init
loop-row-init c = record {
  gathered = start_gathering c.args.bytes.now (records_left st.StartRecord c.args.text.now) c.new-vrps.result.items c.requires.is c.new-vrps.ensures.items;
  ends = c.requires.ends;
}

pub loop-row-preserved : goal.loop-row-preserved
loop-row-preserved c =
    line_gathered c.loop-row.left.now c.in-Some.line.left.now c.args.bytes.now c.loop-row.row c.loop-row.vrps.items c.gather_row.new.vrps.items c.in-Some.line.outcome c.loop-row.invariant c.in-Some.ensures
    c.in_ok-gather_row-in-Some.ensures.ok

pub returns-in_err-gather_row-in-Some-clause-err : goal.returns-in_err-gather_row-in-Some-clause-err
returns-in_err-gather_row-in-Some-clause-err c =
    let p = err_from_is_err_and c.from_residual.result c.from_residual.ensures.1 in
    rw (p.1, p.2) (line_stopped c.loop-row.left.now c.in-Some.line.left.now c.args.bytes.now c.loop-row.row c.loop-row.vrps.items c.in-Some.line.outcome c.loop-row.invariant c.in-Some.ensures
    c.in_err-gather_row-in-Some.field-0.0 c.in_err-gather_row-in-Some.ensures.err)
