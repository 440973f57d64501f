-- Ranks by number, and an order by them.
use Rattle.std.specs.Prelude.{◌≡◌, ℕ, Bool, true, false, Option, List, is_some, unwrap_or, nat_eq, refl, ⊤}
use Rattle.std.specs.List.{IsDistinct, zip}
use Rattle.std.specs.List.Sorted.{IsNonDecreasingBy, IsPermutation}
use Rattle.std.specs.Ordering.{nat_cmp}
use Rattle.std.specs.Coded.{Coded, code_by, coded×, coded_ℕ}
use Rattle.std.specs.FinMap as map
use Rattle.net_names.specs.Numbers.{occurs}
use Rattle.net_names.specs.declared.routes.Rel.{Rel}
use Rattle.cycle_check.specs.Cycles.{IsCycleFromLowest}
use Rattle.rank_order.specs.declared.ranks.RankError.{RankError}
use Rattle.rank_order.specs.declared.ranks.RankError.TheVariants.{Memory, ProviderCycle}

-- a rank for each of finitely many ASes
abbrev pub RankMap : Type 0
RankMap = map.FinMap nat_cmp ℕ

-- the map from each AS to the rank at its place
abbrev pub rank_map : List ℕ → List ℕ → RankMap
rank_map ases ranks = map.from_entries (zip ases ranks)

-- the rank that a map gives to an AS, 0 where it gives none
abbrev pub rank_by : RankMap → ℕ → ℕ
rank_by ranks a = unwrap_or (map.get ranks a) 0

-- ranks are a map from AS to rank, and for how many more ASes there is room without memory
pub record KeptRanks : Type 0 where
  pub by_as : RankMap
  pub spare : ℕ

-- stored as the pair of its fields
abbrev pub kept_ranks_code : Coded KeptRanks
kept_ranks_code =
    code_by (RankMap × ℕ) (coded× (map.code coded_ℕ coded_ℕ) coded_ℕ) (λ r. (r.by_as, r.spare)) (λ p. record { by_as = p.0; spare = p.1 }) (λ _. refl)

-- the rank of an AS, 0 where none is given
abbrev pub rank_at : KeptRanks → ℕ → ℕ
rank_at ranks a = rank_by ranks.by_as a

-- just the ASes, each once, by rising rank
pub record IsRankOrder (has : ℕ → Bool) (rank : ℕ → ℕ) (xs : List ℕ) : Type 0 where
  pub complete : (a : ℕ) → occurs a xs ≡ has a
  pub apart : IsDistinct nat_eq xs
  pub rising : IsNonDecreasingBy rank xs

-- the same numbers, by rising rank
pub record IsSortedOut (rank : ℕ → ℕ) (xs ys : List ℕ) : Type 0 where
  pub same : IsPermutation xs ys
  pub rising : IsNonDecreasingBy rank ys

-- a refusal that names a cycle names a provider cycle, from its lowest number on (Gao and Rexford 2001, the hierarchy assumption)
abbrev pub IsRankRefusal : (ℕ → ℕ → Option Rel) → RankError → Type 0
IsRankRefusal relation Memory = ⊤
IsRankRefusal relation (ProviderCycle cycle) = IsCycleFromLowest relation cycle

-- the AS is one of the list, and has no rank
pub record Lacks (ranks : KeptRanks) (xs : List ℕ) (a : ℕ) : Type 0 where
  pub listed : occurs a xs ≡ true
  pub missing : is_some (map.get ranks.by_as a) ≡ false
