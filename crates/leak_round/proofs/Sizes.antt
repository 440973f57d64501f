-- There is room for the changes of all tables.
use Rattle.std.proofs.Common.{◌≡◌, ℕ, suc, ◌+◌, ◌*◌, ◌≤◌, Some, List, length, arith}
use Rattle.std.specs.Prelude.{slice_get}
use Rattle.std.proofs.Math.Nat.{mul-le-mul_right}
use Rattle.net_names.specs.Prefixes.{PrefixValue}
use Rattle.path_pool.specs.declared.pool.PathPool.{PathPool}
use Rattle.path_pool.specs.Pool.{count_of, holds_of, live_count, limit_of}
use Rattle.path_pool.proofs.Counts.{count_of-le}
use Rattle.stability_laws.specs.Plans.{Plan, prefixes_of}
use Rattle.route_choice.specs.declared.round_tables.RoundTables.{RoundTables}
use Rattle.route_choice.specs.RoundTables.{tables_uses, uses_at}
use Rattle.leak_round.specs.declared.announced.Announced.{Announced}
use Rattle.leak_round.specs.declared.limits.TheConstants.{MOST_ANNOUNCEMENTS, MOST_NUMBERS}
use Rattle.leak_round.specs.Announced.{announced_uses, AreAnnounced}
use Rattle.leak_round.specs.Growth.{HasRoomFor}
use Rattle.leak_round.specs.Limits.{IsWithinLimits}
use Rattle.leak_round.specs.Tables.{entry_uses, AreRoundsFull}
use Rattle.leak_round.proofs.Holding.{uses_few}
use Rattle.leak_round.proofs.Sums.{sum_by-most}

-- so many prefixes and rounds have at most 128 tables
few_tables : (m n : ℕ) → m ≤ 4 → n ≤ 32 → m * n ≤ 128
few_tables m n few_rounds few =
    let one : m * n ≤ 4 * n = mul-le-mul_right n few_rounds in
    omega (arith, one, few)

-- the tables have at most 150,000 entries each with one path
entry_few : (pool : PathPool) (plan : Plan) (rounds : List RoundTables) → AreRoundsFull pool plan rounds → length (prefixes_of plan) ≤ 32 → length rounds ≤ 4 → (k : ℕ) → entry_uses rounds k ≤ 19200000
entry_few pool plan rounds full few few_rounds k =
    let all : entry_uses rounds k ≤ 4800000 * length rounds = sum_by-most (λ (t : RoundTables). tables_uses t k) 4800000 rounds each in
    omega (arith, all, few_rounds)
  where
    each : (i : ℕ) (t : RoundTables) → slice_get rounds i ≡ Some t → tables_uses t k ≤ 4800000
    each i t at =
        let size = (full (suc i) t at).size in
        let most = sum_by-most (λ (p : PrefixValue). uses_at t p k) 150000 (prefixes_of plan) (λ j p is. size.small p k) in
        omega (arith, size.sums k, most, few)

module _ (pool : PathPool) (plan : Plan) (xs : List Announced) (rounds : List RoundTables) (limits : IsWithinLimits plan) (announced : AreAnnounced pool plan xs) (full : AreRoundsFull pool plan rounds) (few_rounds : length rounds ≤ 4)
    (holds : (k : ℕ) → holds_of pool k ≡ entry_uses rounds k + announced_uses xs k) (few_cells : live_count pool ≤ 20000000) where
  -- no path is needed too often
  pub counts_few : (k : ℕ) → count_of pool k ≤ 39200064
  counts_few k = omega (arith, count_of-le pool k, holds k, uses_few xs k, announced.few, limits.announcements, entry_few pool plan rounds full limits.prefixes few_rounds k, few_cells)

  -- and there is room for all changes, also after an edit of who announces what
  pub changes_room : (next : PathPool) → limit_of next ≡ 40000000 → live_count next ≤ live_count pool + MOST_NUMBERS → ((k : ℕ) → count_of next k ≤ count_of pool k + MOST_ANNOUNCEMENTS + 1) → HasRoomFor next (length rounds * length (prefixes_of plan))
  changes_room next limit cells counts =
      let few = few_tables (length rounds) (length (prefixes_of plan)) few_rounds limits.prefixes in
      record {
        cells = omega (arith, few, limit, cells, few_cells);
        counts = λ k. (let was = counts_few k in omega (arith, few, was, counts k));
      }
