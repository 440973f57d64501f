use Rattle.std.proofs.Common.{◌≡◌, ◌∷◌, [], ◌++◌, decimal, take}
use Rattle.std.specs.List.{flat_map}
use Rattle.rank_order.specs.Ranks.{rank_at}
use Rattle.stability_laws.specs.EntryTexts.{row}
use Rattle.reports.proofs.ranks.put_ranks.Given as goal

abbrev pub invariant-loop-place : goal.invariant-loop-place
invariant-loop-place l = l.out.items ≡ l.fn.out.items ++ flat_map (λ a. row (decimal a ∷ decimal (rank_at l.ranks a) ∷ [])) (take l.place l.ases)
