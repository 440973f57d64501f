use Rattle.std.proofs.Common.{◌≡◌, ◌++◌, length, reverse}
use Rattle.std.specs.List.{AllByRecursion}
use Rattle.roa_table.specs.Lists.{IsRising}
use Rattle.roa_table.specs.Chunks.{all_of, IsInOrder}
use Rattle.roa_table.proofs.Cutting.{IsBehind}
use Rattle.roa_table.proofs.chunks.chunked.Given as goal

abbrev pub invariant-rest : goal.invariant-rest
invariant-rest l = record {
  order : IsInOrder (reverse l.chunks.items);
  all : l.vrps.items ++ all_of (reverse l.chunks.items) ≡ l.fn.vrps.items;
  rising : IsRising l.vrps.items;
  behind : AllByRecursion (IsBehind l.vrps.items) (reverse l.chunks.items);
}

abbrev pub decreases-rest : goal.decreases-rest
decreases-rest l = length l.vrps.items
