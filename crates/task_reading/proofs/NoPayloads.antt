-- A file without bytes has no payloads.
use Rattle.std.proofs.Common.{◌≡◌, [], ap, Some, Ok}
use Rattle.roa_table.specs.Sets.{no_payloads}
use Rattle.roa_table.proofs.Empty.{payloads_in-nil}
use Rattle.task_reading.specs.declared.types.File.TheVariants as file
use Rattle.task_reading.specs.declared.types.Cause.TheVariants as cause
use Rattle.task_reading.proofs.ReadLemmas.{or_fault, payloads_of}

pub no_payloads_read : payloads_of (Some []) ≡ Ok no_payloads
no_payloads_read = ap (or_fault file.Payloads cause.Payload) payloads_in-nil
