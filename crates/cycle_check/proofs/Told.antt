-- Ranks told place by place are the ranks told by number.
use Rattle.std.proofs.Common.{◌≡◌, ℕ, suc, Bool, true, false, ◌==◌, cond, Some, List, [], ◌∷◌, get_or, refl, unwrap_or}
use Rattle.cycle_check.specs.declared.ranking.RankedAs.{RankedAs}
use Rattle.cycle_check.specs.Places.{place_in}
use Rattle.cycle_check.specs.Rankings.{rank_in, rank_told, numbers_of, ranks_of}

pub rank_in-at : (xs : List RankedAs) (a : ℕ) → rank_in xs a ≡ get_or (ranks_of xs) (place_in (numbers_of xs) a) 0
rank_in-at [] a = refl
rank_in-at (x ∷ xs) a = by (x.asn == a) (rank_in-at xs a)
  where
    by : (b : Bool) → rank_in xs a ≡ get_or (ranks_of xs) (place_in (numbers_of xs) a) 0 → unwrap_or (cond b (Some x.rank) (rank_told xs a)) 0 ≡ get_or (x.rank ∷ ranks_of xs) (cond b 0 (suc (place_in (numbers_of xs) a))) 0
    by true ih = refl
    by false ih = ih
