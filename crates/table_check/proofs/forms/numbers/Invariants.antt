use Rattle.std.proofs.Common.{◌≡◌, ◌+◌, ◌≤◌, length}
use Rattle.table_check.specs.Forms.{numbers_of}
use Rattle.table_check.proofs.PathNumbers.{numbers_on}
use Rattle.table_check.proofs.forms.numbers.Given as goal

abbrev pub invariant-loop-word : goal.invariant-loop-word
invariant-loop-word l = record {
  so_far : numbers_on l.path l.rest ≡ numbers_of l.text;
  few : length l.path + length l.rest ≤ length l.text;
}

abbrev pub decreases-loop-word : goal.decreases-loop-word
decreases-loop-word l = length l.rest
