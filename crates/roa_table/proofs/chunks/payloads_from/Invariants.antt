use Rattle.std.proofs.Common.{◌≡◌, drop}
use Rattle.roa_table.specs.Chunks.{all_of}
use Rattle.roa_table.proofs.chunks.payloads_from.Given as goal

abbrev pub invariant-loop-chunk : goal.invariant-loop-chunk
invariant-loop-chunk l = drop l.left (all_of (drop l.chunk-index l.chunks)) ≡ drop l.place (all_of l.chunks)
