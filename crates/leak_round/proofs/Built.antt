-- A pool that begins without paths.
use Rattle.std.proofs.Common.{◌+◌, ◌≡◌, ℕ, zero, suc, ◌-◌, ◌*◌, ◌<◌, ◌≤◌, Bor, Option, Some, None, option_map, List, [], length, is_some, refl, sym, ap, ◌∙◌, arith}
use Rattle.std.specs.Prelude.{IsSome, IfSome, IsTrue, slice_get}
use Rattle.std.specs.FinMap as fin
use Rattle.std.specs.Option.{option_copied}
use Rattle.net_names.specs.Prefixes.{PrefixValue}
use Rattle.path_pool.specs.declared.path_id.PathId.{PathId}
use Rattle.path_pool.specs.declared.pool.PathPool.{PathPool}
use Rattle.path_pool.specs.Pool.{IsLive, list_of, count_of, live_count, limit_of}
use Rattle.stability_laws.specs.Plans.{Plan, has_prefix, announced_path, prefixes_of}
use Rattle.route_choice.specs.declared.round_tables.RoundTables.{RoundTables}
use Rattle.leak_round.specs.declared.announced.Announced.{Announced}
use Rattle.leak_round.specs.Announced.{own_path, IsAnnouncing, HasAnnounced, AreAnnounced}
use Rattle.leak_round.specs.Growth.{HasRoomFor}
use Rattle.leak_round.specs.Made.{AreRoundsMade, CanStand}
use Rattle.leak_round.specs.Tables.{tables_in, AreFull, AreRoundsFull}
use Rattle.leak_round.specs.Limits.{IsWithinLimits, numbers_of}
use Rattle.leak_round.proofs.Counting.{none_some}
use Rattle.leak_round.proofs.Keeping.{announced_kept}
use Rattle.leak_round.proofs.Numbers.{few_numbers}
use Rattle.std.proofs.Math.Nat.{mul-le-mul_right}

pub nothing_announced : (pool : PathPool) (plan : Plan) → ((k : ℕ) → ¬ IsLive pool k) → IsAnnouncing pool plan []
nothing_announced pool plan dead = record {
  live = λ prefix a id e. cc;
  sound = λ prefix a id e. cc;
  each = λ place x at. cc;
  holds = λ k. (let unused : ¬ (0 < count_of pool k) = dead k in omega (arith, unused));
  counts = λ k. (let unused : ¬ (0 < count_of pool k) = dead k in omega (arith, unused));
}

-- all that is announced stands in the pool
pub all_announced : (pool : PathPool) (plan : Plan) (xs : List Announced) → IsAnnouncing pool plan xs → ((prefix : PrefixValue) (a : ℕ) → IsTrue (has_prefix plan prefix) → HasAnnounced plan xs prefix a) → length xs ≤ fin.len plan.announced → AreAnnounced pool plan xs
all_announced pool plan xs h whole few = record { live = h.live; each = h.each; few = few; paths = λ prefix a known. by prefix a known (own_path xs prefix a) refl (announced_path plan prefix a) refl }
  where
    by : (prefix : PrefixValue) (a : ℕ) → IsTrue (has_prefix plan prefix) → (o : Option PathId) → own_path xs prefix a ≡ o → (p : Option (List ℕ)) → announced_path plan prefix a ≡ p → option_map (λ (id : PathId). list_of pool id.0) o ≡ p
    by prefix a known (Some id) e p is = sym (h.sound prefix a id e) ∙ is
    by prefix a known None e None is = refl
    by prefix a known None e (Some path) is = absurd (none_some (own_path xs prefix a) e (whole prefix a known (some is)))
      where
        some : {X : Type 0} {o : Option X} {x : X} → o ≡ Some x → IsSome o
        some e = ap is_some e

-- where all tables are made rounds can stand on the pool
pub can_stand : (pool next : PathPool) (plan : Plan) (xs : List Announced) (number : ℕ) (rounds : List RoundTables) → IsAnnouncing pool plan xs → ((prefix : PrefixValue) (a : ℕ) → IsTrue (has_prefix plan prefix) → HasAnnounced plan xs prefix a) → length xs ≤ fin.len plan.announced
    → AreRoundsMade pool next plan number rounds → IsWithinLimits plan → number ≤ 4 → limit_of pool ≡ 40000000 → CanStand next plan xs rounds
can_stand pool next plan xs number rounds h whole few made limits low limit = record {
  announced = announced_kept pool next made.keeps plan xs (all_announced pool plan xs h whole few);
  full = made.full;
  holds = λ k. omega (arith, made.holds k, h.holds k);
  limits = limits;
  few = omega (arith, made.count, low);
  cells = made.grows.limit ∙ limit;
}

-- there is room for all tables
pub all_room : (pool : PathPool) (plan : Plan) (rounds : ℕ) → IsWithinLimits plan → rounds ≤ 4 → live_count pool ≤ numbers_of plan → ((k : ℕ) → count_of pool k ≤ live_count pool) → limit_of pool ≡ 40000000 → HasRoomFor pool (rounds * length (prefixes_of plan))
all_room pool plan rounds h few live counts limit =
    let n = length (prefixes_of plan) in
    let one : rounds * n ≤ 4 * n = mul-le-mul_right n few in
    let most : numbers_of plan ≤ 4096 = few_numbers plan h in
    record {
      cells = omega (arith, one, most, live, limit, h.prefixes);
      counts = λ k. omega (arith, one, most, live, counts k, h.prefixes);
    }

-- all tables with all announced paths have few cells
pub few_cells : (old new : PathPool) (plan : Plan) (rounds : ℕ) → IsWithinLimits plan → rounds ≤ 4 → live_count old ≤ numbers_of plan → live_count new ≤ live_count old + 150000 * (rounds * length (prefixes_of plan)) → live_count new ≤ 20000000
few_cells old new plan rounds h few live more =
    let n = length (prefixes_of plan) in
    let one : rounds * n ≤ 4 * n = mul-le-mul_right n few in
    let most : numbers_of plan ≤ 4096 = few_numbers plan h in
    omega (arith, one, most, live, more, h.prefixes)

-- the tables of a round stand at the place before its number
tables_at : (rounds : List RoundTables) (round : ℕ) → 0 < round → tables_in rounds round ≡ slice_get rounds (round - 1)
tables_at rounds zero some = absurd (omega arith)
tables_at rounds (suc i) some = ap (slice_get rounds) (let same : i ≡ suc i - 1 = omega arith in same)

-- what holds of the tables of each round holds of those that are found
pub of_found : (pool : PathPool) (plan : Plan) (rounds : List RoundTables) (round : ℕ) → 0 < round → AreRoundsFull pool plan rounds → (r : Option (Bor RoundTables)) → option_copied r ≡ slice_get rounds (round - 1) → IfSome r (λ t. AreFull pool plan t.now)
of_found pool plan rounds round some full None at = tt
of_found pool plan rounds round some full (Some t) at = full round t.now (tables_at rounds round some ∙ sym at)

pub if_some : {X : Type 0} (P Q : X → Type 0) → ((x : X) → P x → Q x) → (r : Option X) → IfSome r P → IfSome r Q
if_some P Q f None h = tt
if_some P Q f (Some x) h = f x h
