use Rattle.std.proofs.Common.{[], subst, ap}
use Rattle.csv.specs.Reading.{records, default_config, strip_bom}
use Rattle.csv.specs.Records.{fields_of}
use Rattle.roa_table.specs.Standing.{GoesOn}
use Rattle.roa_table.proofs.Gathered.{first_fault}
use Rattle.roa_table.proofs.Reading.{no_rows}
use Rattle.roa_table.proofs.Admitted.{no_value, start_admitting, none_faulty, admitted_fault, admitted_on}
use Rattle.roa_table.proofs.crowd.first_fault.Goals as goal

pub unreachable-requires : goal.unreachable-requires
unreachable-requires c =
    let rest = records default_config (strip_bom c.args.bytes.now) in
    let h = subst (λ b. GoesOn c.step.new.reader rest b (fields_of c.step.new.fields)) c.in-Ok-false.field-0-test (c.in-Ok-false.ensures rest c.open-reader.ensures) in
    no_value c.args.bytes.now (ap (first_fault []) (no_rows c.step.new.reader c.args.bytes.now (fields_of c.step.new.fields) h)) c.requires

pub loop-row-init : goal.loop-row-init
loop-row-init c =
    let rest = records default_config (strip_bom c.args.bytes.now) in
    let h = subst (λ b. GoesOn c.step.new.reader rest b (fields_of c.step.new.fields)) c.in-Ok-true.field-0-test (c.in-Ok-true.ensures rest c.open-reader.ensures) in
    start_admitting c.step.new.reader c.args.bytes.now (fields_of c.step.new.fields) c.new-vrps.result.keys c.new-vrps.ensures.empty h

pub returns-in-Err-admit : goal.returns-in-Err-admit
returns-in-Err-admit c =
    let g = c.loop-row.invariant in
    let fields = fields_of c.step-in-loop-row.new.fields in
    let h = subst (λ b. GoesOn c.step-in-loop-row.new.reader g.reading.left b fields) c.in-Ok-true-step.field-0-test (c.in-Ok-true-step.ensures g.reading.left g.reading.stands) in
    admitted_fault c.loop-row.reader c.step-in-loop-row.new.reader c.args.bytes.now c.loop-row.row c.loop-row.vrps.keys g fields h c.in-Err-admit.e c.in-Err-admit.ensures.err

pub unreachable-requires-in-Ok-false-step : goal.unreachable-requires-in-Ok-false-step
unreachable-requires-in-Ok-false-step c =
    let g = c.loop-row.invariant in
    let fields = fields_of c.step-in-loop-row.new.fields in
    let h = subst (λ b. GoesOn c.step-in-loop-row.new.reader g.reading.left b fields) c.in-Ok-false-step.field-0-test (c.in-Ok-false-step.ensures g.reading.left g.reading.stands) in
    no_value c.args.bytes.now (none_faulty c.loop-row.reader c.step-in-loop-row.new.reader c.args.bytes.now c.loop-row.row c.loop-row.vrps.keys g fields h) c.requires

pub loop-row-preserved : goal.loop-row-preserved
loop-row-preserved c =
    let g = c.loop-row.invariant in
    let fields = fields_of c.step-in-loop-row.new.fields in
    let h = subst (λ b. GoesOn c.step-in-loop-row.new.reader g.reading.left b fields) c.in-Ok-true-step.field-0-test (c.in-Ok-true-step.ensures g.reading.left g.reading.stands) in
    admitted_on c.loop-row.reader c.step-in-loop-row.new.reader c.args.bytes.now c.loop-row.row c.loop-row.vrps.keys g fields h c.admit.new.vrps.keys c.in-Ok.ensures.ok
