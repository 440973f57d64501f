use Rattle.csv.specs.Records.{fields_of}
use Rattle.roa_table.proofs.CsvRecords.{goes_on}
use Rattle.roa_table.proofs.rows.step.Goals as goal

pub returns-in-Ok : goal.returns-in-Ok
returns-in-Ok c rest at =
    goes_on c.args.reader.now c.read_byte_record.new.self rest at c.in-Ok.found (fields_of c.read_byte_record.new.row)
    (c.in-Ok.ensures.reads at.untrimmed at.ready) (c.in-Ok.ensures.ready at.untrimmed) c.in-Ok.ensures.flexible
