use Rattle.std.proofs.Common.{◌∙◌, ap, sym}
use Rattle.std.specs.Ordering.{eq_by_cmp}
use Rattle.std.proofs.lemmas.List.Filters.{dedup_is}
use Rattle.std.proofs.lemmas.List.Kept.{IsStrictlySortedBy-dedup}
use Rattle.std.proofs.lemmas.List.Sorted.{list_any-IsPermutation}
use Rattle.net_names.specs.Payloads.{vrp_cmp}
use Rattle.net_names.specs.Orders.{vrp_total, vrp_eq_is_tie}
use Rattle.roa_table.specs.Lists.{is_rising, stands_in}
use Rattle.roa_table.proofs.Rising.{rising_from_strictly}
use Rattle.roa_table.proofs.Gathered.{any_dedup}
use Rattle.roa_table.proofs.gather.tidy.Goals as goal

pub returns-clause-rising : goal.returns-clause-rising
returns-clause-rising c =
    ap (is_rising vrp_cmp) (dedup_is _ _ _ c.dedup.ensures.filtered)
    ∙ rising_from_strictly vrp_cmp _ (IsStrictlySortedBy-dedup vrp_total vrp_eq_is_tie _ c.sort_unstable.ensures.sorted)

pub returns-clause-members : goal.returns-clause-members
returns-clause-members c q =
    ap (λ l. stands_in l q) (dedup_is _ _ _ c.dedup.ensures.filtered)
    ∙ any_dedup _ vrp_eq_is_tie _ q ∙ sym (list_any-IsPermutation (eq_by_cmp vrp_cmp q) _ _ c.sort_unstable.ensures.permutation)
