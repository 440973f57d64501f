use Rattle.std.proofs.Common.{◌≡◌, ◌+◌, ◌≤◌, length}
use Rattle.net_names.specs.Texts.{fields}
use Rattle.activations.specs.Files.{numbers_in}
use Rattle.activations.proofs.Words.{behind}
use Rattle.activations.proofs.forms.numbers.Given as goal

abbrev pub invariant-loop-word : goal.invariant-loop-word
invariant-loop-word l = record {
  so_far : behind l.path (numbers_in (fields 32 l.rest)) ≡ numbers_in (fields 32 l.text);
  few : length l.path + length l.rest ≤ length l.text;
}

abbrev pub decreases-loop-word : goal.decreases-loop-word
decreases-loop-word l = length l.rest
