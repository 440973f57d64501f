use Rattle.std.proofs.Common.{subst, sym}
use Rattle.std.proofs.lemmas.Result.{IfOk-weaker, IfErr-weaker, err_from_is_err_and}
use Rattle.csv.specs.Records.{fields_of}
use Rattle.roa_table.specs.Files.{payloads_in}
use Rattle.roa_table.specs.Standing.{GoesOn}
use Rattle.roa_table.specs.Gathering.{Explains}
use Rattle.roa_table.proofs.CsvRecords.{ended}
use Rattle.roa_table.proofs.Reading.{crowd, gathered_all, row_gathered, row_stopped}
use Rattle.roa_table.proofs.gather.gather_records.Goals as goal

pub loop-row-preserved : goal.loop-row-preserved
loop-row-preserved c =
    let g = c.loop-row.invariant in
    let fields = fields_of c.step.new.fields in
    let h = subst (λ b. GoesOn c.step.new.reader g.left b fields) c.if-not-branch.false (c.in_ok-step.ensures g.left g.stands) in
    row_gathered c.loop-row.reader c.step.new.reader c.args.bytes.now c.loop-row.row c.loop-row.vrps.items c.gather_row.new.vrps.items g fields h c.judge.result c.judge.ensures c.in_ok-gather_row.ensures.ok

pub returns-in_err-gather_row-clause-err : goal.returns-in_err-gather_row-clause-err
returns-in_err-gather_row-clause-err c =
    let g = c.loop-row.invariant in
    let fields = fields_of c.step.new.fields in
    let h = subst (λ b. GoesOn c.step.new.reader g.left b fields) c.if-not-branch.false (c.in_ok-step.ensures g.left g.stands) in
    let p = err_from_is_err_and c.from_residual-in_err-gather_row.result c.from_residual-in_err-gather_row.ensures.1 in
    rw (p.1, p.2) (row_stopped c.loop-row.reader c.step.new.reader c.args.bytes.now c.loop-row.row c.loop-row.vrps.items g fields h c.judge.result c.judge.ensures c.in_err-gather_row.field-0.0 c.in_err-gather_row.ensures.err)

pub returns-then-not-branch-clause-ok : goal.returns-then-not-branch-clause-ok
returns-then-not-branch-clause-ok c =
    let g = c.loop-row.invariant in
    let fields = fields_of c.step.new.fields in
    let h = subst (λ b. GoesOn c.step.new.reader g.left b fields) c.if-not-branch.true (c.in_ok-step.ensures g.left g.stands) in
    IfOk-weaker c.finish.result _ _ (λ vs k. gathered_all c.args.bytes.now g.left c.loop-row.row c.loop-row.vrps.items g.gathered (ended c.step.new.reader g.left fields h) vs.items k) c.finish.ensures.ok

pub returns-then-not-branch-clause-err : goal.returns-then-not-branch-clause-err
returns-then-not-branch-clause-err c =
    let g = c.loop-row.invariant in
    IfErr-weaker c.finish.result _ _
    (λ stop k. subst (λ s. Explains s (payloads_in c.args.bytes.now)) (sym k.0) (crowd c.args.bytes.now g.left c.loop-row.row c.loop-row.vrps.items g.gathered k.1))
    c.finish.ensures.err
