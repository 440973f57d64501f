use Rattle.std.proofs.Common.{◌≡◌, ◌+◌, ◌≤◌, ◌++◌, ℕ, List, None, length}
use Rattle.caida_reader.specs.Progress.{outcome}
use Rattle.caida_reader.proofs.reader.Reader.feed.Given as goal

abbrev pub invariant-lines : goal.invariant-lines
invariant-lines l = record {
  goes : l.self.failed ≡ None;
  so_far : (more : List ℕ) → outcome l.self (l.left ++ more) ≡ outcome l.fn.self (l.piece ++ more);
  line : l.self.line + length l.left ≤ l.fn.self.line + length l.piece;
}

abbrev pub decreases-lines : goal.decreases-lines
decreases-lines l = length l.left
