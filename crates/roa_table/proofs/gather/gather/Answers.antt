use Rattle.roa_table.proofs.Reading.{read_from_line}
use Rattle.roa_table.proofs.gather.gather.Goals as goal

pub gather_records-requires : goal.gather_records-requires
gather_records-requires c =
    let g = c.in_ok-gathered-in-Some.gathered in
    read_from_line c.open-reader.result g.left.now c.args.bytes.now g.row g.vrps.items c.in_ok-gathered-in-Some.ensures.ok c.open-reader.ensures
