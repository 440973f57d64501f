use Rattle.std.proofs.Common.{sym, ap, ◌∙◌}
use Rattle.std.proofs.lemmas.List.Sorted.{list_any-IsPermutation, IsNonDecreasingBy-from_sort}
use Rattle.net_names.specs.Numbers.{occurs}
use Rattle.table_check.proofs.numbers.Numbers.of.Goals as goal

pub invariant_of-result : goal.invariant_of-result
invariant_of-result c = record { rising = IsNonDecreasingBy-from_sort (λ x. x) c.sort_unstable.new.self.items c.sort_unstable.ensures.sorted }

pub returns : goal.returns
returns c = λ a. sym (list_any-IsPermutation _ _ _ c.sort_unstable.ensures.permutation) ∙ ap (occurs a) c.in_ok-sorted.ensures.items
