use Rattle.std.proofs.Common.{◌≡◌, take}
use Rattle.cycle_check.specs.Rankings.{numbers_of, ranks_of}
use Rattle.cycle_check.proofs.ranking.with_ranks.Given as goal

abbrev pub invariant-loop-place : goal.invariant-loop-place
invariant-loop-place l = record {
  asns : numbers_of l.ranked.items ≡ take l.place l.ases;
  ranks : ranks_of l.ranked.items ≡ take l.place l.ranks;
}
