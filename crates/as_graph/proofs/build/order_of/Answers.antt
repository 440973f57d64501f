use Rattle.std.proofs.Common.{◌≡◌, nat_eq, ap, sym, ◌∙◌, subst}
use Rattle.std.specs.List.{IsDistinct}
use Rattle.std.specs.Cmp.{nat_eq_equiv}
use Rattle.std.proofs.lemmas.List.Sorted.{list_any-IsPermutation, IsNonDecreasingBy-from_sort}
use Rattle.std.proofs.lemmas.Map.Keys.{IsDistinct-IsPermutation, IsStrictlyIncreasing-from_distinct}
use Rattle.indexmap.specs.IndexMap.{keys}
use Rattle.net_names.specs.Numbers.{occurs}
use Rattle.as_graph.proofs.RowAses.{occurs-keys}
use Rattle.as_graph.proofs.build.order_of.Goals as goal

pub returns-clause-listed : goal.returns-clause-listed
returns-clause-listed c = λ a.
    let read : c.in_ok-order.order.items ≡ keys c.args.rows.now = c.in_ok-order.ensures.items ∙ c.as_slice.ensures ∙ c.keys.ensures.rest in
    sym (list_any-IsPermutation _ c.in_ok-order.order.items c.sort_unstable.new.self.items c.sort_unstable.ensures.permutation) ∙ ap (occurs a) read ∙ occurs-keys c.args.rows.now.entries a

pub returns-clause-rising : goal.returns-clause-rising
returns-clause-rising c =
    let read : c.in_ok-order.order.items ≡ keys c.args.rows.now = c.in_ok-order.ensures.items ∙ c.as_slice.ensures ∙ c.keys.ensures.rest in
    IsStrictlyIncreasing-from_distinct c.sort_unstable.new.self.items (IsNonDecreasingBy-from_sort (λ x. x) c.sort_unstable.new.self.items c.sort_unstable.ensures.sorted)
    (IsDistinct-IsPermutation nat_eq nat_eq_equiv.symm c.in_ok-order.order.items c.sort_unstable.new.self.items c.sort_unstable.ensures.permutation (subst (IsDistinct nat_eq) (sym read) c.keys.ensures.unique))
