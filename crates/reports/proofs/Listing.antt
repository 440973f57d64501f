-- The rows of the ASes of a graph in rising number are its table.
use Rattle.std.proofs.Common.{◌≡◌, ℕ, List, ◌++◌, sym, ◌∙◌, ap}
use Rattle.std.proofs.lemmas.Cmp.{nat_cmp_total}
use Rattle.std.specs.Ordering.{nat_cmp}
use Rattle.std.specs.List.{flat_map}
use Rattle.std.specs.List.Sorted.{IsStrictlyIncreasing}
use Rattle.std.specs.FinMap as fin
use Rattle.std.specs.FinMap.{nat_cmp-IsAntisymmetric}
use Rattle.std.proofs.lemmas.Map.Keys.{sorted_from_strictly_increasing}
use Rattle.net_names.specs.Numbers.{occurs}
use Rattle.net_names.proofs.Marks.{marks, by_order, listed_keys}
use Rattle.as_graph.specs.Topology.{Topology, ases, has}
use Rattle.reports.specs.Rows.{table}

-- the numbers of the ASes, if they rise
listed_is : (g : Topology) (ks : List ℕ) → IsStrictlyIncreasing ks → ((a : ℕ) → occurs a ks ≡ has g a) → ks ≡ fin.keys (fin.from_entries {R = nat_cmp} (marks (ases g)))
listed_is g ks rising same = listed_keys nat_cmp nat_cmp_total nat_cmp-IsAntisymmetric ks (ases g) (sorted_from_strictly_increasing ks rising) (λ q. by_order q ks ∙ same q ∙ sym (by_order q (ases g)))

-- a text that has grown by their rows has grown by the table
pub table_is : (g : Topology) (ks : List ℕ) → IsStrictlyIncreasing ks → ((a : ℕ) → occurs a ks ≡ has g a) → (f : ℕ → List ℕ) (old new : List ℕ) → new ≡ old ++ flat_map f ks → new ≡ old ++ table g f
table_is g ks rising same f old new is = is ∙ ap (λ (xs : List ℕ). old ++ flat_map f xs) (listed_is g ks rising same)
