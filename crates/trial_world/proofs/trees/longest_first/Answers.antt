use Rattle.std.proofs.Common.{◌-◌, rules}
use Rattle.std.proofs.lemmas.List.Sorted.{IsNonDecreasingBy-from_sort_by_key}
use Rattle.net_names.specs.Prefixes.{PrefixValue}
use Rattle.trial_world.proofs.trees.longest_first.Goals as goal

pub returns-clause-falling : goal.returns-clause-falling
returns-clause-falling c = IsNonDecreasingBy-from_sort_by_key (λ (p : PrefixValue). 255 - p.len) _ c.in_ok-sort_by_key.ensures.sorted (λ a r q k. search rules)
