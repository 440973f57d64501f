use Rattle.std.proofs.Common.{sym}
use Rattle.net_names.proofs.Cuts.{fields_cut}
use Rattle.caida_reader.proofs.line.read_fields.Goals as goal

pub returns-in-Some-Some-Some-clause-value : goal.returns-in-Some-Some-Some-clause-value
returns-in-Some-Some-Some-clause-value c =
    let one = fields_cut 124 c.args.text.now c.in-Some.first.now c.in-Some.rest.now (sym c.in-Some.ensures) in
    let two = fields_cut 124 c.in-Some.rest.now c.in-Some-cut.second.now c.in-Some-cut.rest.now (sym c.in-Some-cut.ensures) in
    let three = c.first_field.ensures.1 in
    rw (one, two, three, ← c.in-Some-Some-Some.ensures, ← c.in-Some-Some-Some.ensures', ← c.in-Some-Some-Some.ensures'') c.make_link.ensures.value
