-- Holds of announced paths, one taken or given back after the other.
use Rattle.std.proofs.Common.{◌≡◌, ℕ, ◌+◌, ◌<◌, ◌≤◌, Bool, true, false, ◌==◌, cond, List, length, take, get_or, inl, inr, refl, ap, sym, subst, arith}
use Rattle.std.proofs.lemmas.Bool.{cases_eq, eq-eqb, ne_eqb}
use Rattle.std.proofs.lemmas.List.Sums.{sum_by-take-le}
use Rattle.std.proofs.lemmas.Option.{slice_get_read}
use Rattle.path_pool.specs.declared.pool.PathPool.{PathPool}
use Rattle.path_pool.specs.Pool.{GainsHold, LosesHold, holds_of, live_count, spare_of, limit_of}
use Rattle.route_choice.specs.Holds.{GivesBack}
use Rattle.leak_round.specs.declared.announced.Announced.{Announced}
use Rattle.leak_round.specs.Announced.{announced_uses}
use Rattle.leak_round.proofs.Listing.{sum_next}
use Rattle.leak_round.proofs.Sums.{sum_by-most}

-- the uses of the announcements up to the one that is read, and of that one
pub uses_read : (xs : List Announced) (i : ℕ) (x : Announced) → i < length xs → x ≡ get_or xs i x → (k : ℕ) → announced_uses (take (i + 1) xs) k ≡ announced_uses (take i xs) k + cond (x.path.0 == k) 1 0
uses_read xs i x less is k = sum_next (λ (y : Announced). cond (y.path.0 == k) 1 0) xs i x (slice_get_read xs (length xs) i x refl less is)

pub uses_most : (xs : List Announced) (i k : ℕ) → announced_uses (take i xs) k ≤ announced_uses xs k
uses_most xs i k = sum_by-take-le (λ (y : Announced). cond (y.path.0 == k) 1 0) xs i

-- no path is used more often than there are announcements
pub uses_few : (xs : List Announced) (k : ℕ) → announced_uses xs k ≤ length xs
uses_few xs k = omega (arith, sum_by-most (λ (y : Announced). cond (y.path.0 == k) 1 0) 1 xs (λ i y at. at_most_one (y.path.0 == k)))
  where
    at_most_one : (b : Bool) → cond b 1 0 ≤ 1
    at_most_one true = omega arith
    at_most_one false = omega arith

pub one_of_itself : (id : ℕ) → ◌≡◌ {A = ℕ} (cond (id == id) 1 0) 1
one_of_itself id = ap {B = ℕ} (λ (b : Bool). cond b 1 0) (eq-eqb id id refl)

none_of_other : (id k : ℕ) → (id ≡ k → ⊥) → ◌≡◌ {A = ℕ} (cond (id == k) 1 0) 0
none_of_other id k ne = ap {B = ℕ} (λ (b : Bool). cond b 1 0) (ne_eqb id k ne)

pub holds_gained : (pool next : PathPool) (id : ℕ) → GainsHold pool next id → (k : ℕ) → holds_of next k ≡ holds_of pool k + cond (id == k) 1 0
holds_gained pool next id h k = elim (cases_eq id k) [
  | inl e ↦ subst (λ j. holds_of next j ≡ holds_of pool j + cond (id == j) 1 0) e (omega (arith, h.one_more, one_of_itself id))
  | inr ne ↦ omega (arith, h.other_holds k (λ e. ne (sym e)), none_of_other id k ne)
]

pub holds_lost : (pool next : PathPool) (id : ℕ) → LosesHold pool next id → (k : ℕ) → holds_of next k + cond (id == k) 1 0 ≡ holds_of pool k
holds_lost pool next id h k = elim (cases_eq id k) [
  | inl e ↦ subst (λ j. holds_of next j + cond (id == j) 1 0 ≡ holds_of pool j) e (omega (arith, h.one_less, one_of_itself id))
  | inr ne ↦ omega (arith, h.other_holds k (λ e. ne (sym e)), none_of_other id k ne)
]

pub given_back : (pool next : PathPool) (id freed : ℕ) → LosesHold pool next id → live_count next + freed ≡ live_count pool → spare_of next ≡ spare_of pool + freed → limit_of next ≡ limit_of pool → GivesBack pool next
given_back pool next id freed h live spare limit = record { was_live = h.was_live; lists = h.lists; counts = h.counts; live = omega (arith, live); spare = omega (arith, spare); limit = limit }
