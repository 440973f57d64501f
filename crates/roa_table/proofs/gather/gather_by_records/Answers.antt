use Rattle.std.proofs.Common.{subst}
use Rattle.csv.specs.Reading.{records, default_config, strip_bom}
use Rattle.csv.specs.Records.{fields_of}
use Rattle.roa_table.specs.Standing.{GoesOn}
use Rattle.roa_table.proofs.Reading.{no_rows, none_read, start_reading}
use Rattle.roa_table.proofs.gather.gather_by_records.Goals as goal

pub returns-then-not-branch-clause-ok : goal.returns-then-not-branch-clause-ok
returns-then-not-branch-clause-ok c =
    let rest = records default_config (strip_bom c.args.bytes.now) in
    let h = subst (λ b. GoesOn c.step.new.reader rest b (fields_of c.step.new.fields)) c.if-not-branch.true (c.in_ok-step.ensures rest c.open-reader.ensures) in
    none_read c.args.bytes.now c.new-vrps.result.items (no_rows c.step.new.reader c.args.bytes.now (fields_of c.step.new.fields) h) c.new-vrps.ensures.items

pub gather_records-requires : goal.gather_records-requires
gather_records-requires c =
    let rest = records default_config (strip_bom c.args.bytes.now) in
    let h = subst (λ b. GoesOn c.step.new.reader rest b (fields_of c.step.new.fields)) c.if-not-branch.false (c.in_ok-step.ensures rest c.open-reader.ensures) in
    start_reading c.step.new.reader c.args.bytes.now (fields_of c.step.new.fields) c.new-vrps.result.items c.new-vrps.ensures.items h
