use Rattle.std.proofs.Common.{sym}
use Rattle.net_names.specs.Texts.{fields}
use Rattle.net_names.proofs.Cuts.{fields_cut}
use Rattle.caida_reader.proofs.line.first_field.Goals as goal

pub returns-in-Some : goal.returns-in-Some
returns-in-Some c = (fields 124 c.in-Some.field-0-1.now, fields_cut 124 c.args.text.now c.in-Some.field.now c.in-Some.field-0-1.now (sym c.in-Some.ensures))
