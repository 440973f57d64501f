use Rattle.std.proofs.Common.{◌≡◌, ◌+◌, ◌<◌, ◌^◌, ◌++◌, ℕ, List, length, drop}
use Rattle.caida_reader.specs.Progress.{joined}
use Rattle.caida_reader.specs.Value.{links_of}
use Rattle.caida_reader.specs.Progress.{outcome}
use Rattle.caida_reader.proofs.reader.read_pieces.Given as goal

abbrev pub invariant-pieces : goal.invariant-pieces
invariant-pieces l = record {
  so_far : (more : List ℕ) → outcome l.reader (joined (drop l.piece-index l.pieces) ++ more) ≡ links_of (joined l.pieces ++ more);
  numbers : l.reader.line + length (joined (drop l.piece-index l.pieces)) < 2 ^ 64;
}
