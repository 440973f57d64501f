-- A file without bytes has no payloads.
use Rattle.std.proofs.Common.{◌≡◌, [], refl, Ok}
use Rattle.csv.specs.Machine.{next_record}
use Rattle.csv.specs.Reading.{records_from, strip_bom}
use Rattle.roa_table.specs.Files.{payloads_in}
use Rattle.roa_table.specs.Sets.{no_payloads}

pub payloads_in-nil : payloads_in [] ≡ Ok no_payloads
unfolding records_from strip_bom next_record
payloads_in-nil = refl
