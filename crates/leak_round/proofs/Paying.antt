-- What changes cost of a pool, one after the other.
use Rattle.std.proofs.Common.{◌≡◌, ℕ, ◌+◌, ◌*◌, List, refl, ◌∙◌, arith}
use Rattle.path_pool.specs.declared.pool.PathPool.{PathPool}
use Rattle.path_pool.specs.Pool.{limit_of}
use Rattle.dirty_recompute.specs.Resources.{IsUndone}
use Rattle.leak_round.specs.declared.changes.Change.{Change}
use Rattle.leak_round.specs.Found.{IsPaid, IsCutOff}
use Rattle.leak_round.proofs.Keeping.{keeps_itself, keeps_on, grows_on}

pub paid_itself : (pool : PathPool) (xs : List Change) (n : ℕ) → IsPaid pool pool xs xs n
paid_itself pool xs n = record {
  keeps = keeps_itself pool;
  holds = λ k. refl;
  grows = record { cells = omega arith; counts = λ k. omega arith; limit = refl };
  cells = omega arith;
}

pub paid_on : (a b c : PathPool) (xs ys zs : List Change) (m n k : ℕ) → IsPaid a b xs ys m → IsPaid b c ys zs n → k ≡ m + n → IsPaid a c xs zs k
paid_on a b c xs ys zs m n k p q e = record {
  keeps = keeps_on a b c p.keeps q.keeps;
  holds = λ j. omega (arith, p.holds j, q.holds j);
  grows = grows_on a b c (150000 * m) (150000 * n) (150000 * k) p.grows q.grows (omega (arith, e));
  cells = omega (arith, p.cells, q.cells);
}

pub cut_itself : (pool : PathPool) (xs : List Change) → IsCutOff pool pool xs xs
cut_itself pool xs = record { holds = λ k. refl; lists = λ k l m. refl; limit = refl }

pub cut_paid : (a b : PathPool) (xs ys : List Change) (n : ℕ) → IsPaid a b xs ys n → IsCutOff a b xs ys
cut_paid a b xs ys n p = record { holds = p.holds; lists = λ k l m. p.keeps.lists k l; limit = p.grows.limit }

pub cut_on : (a b c : PathPool) (xs ys zs : List Change) (n : ℕ) → IsPaid a b xs ys n → IsCutOff b c ys zs → IsCutOff a c xs zs
cut_on a b c xs ys zs n p q = record {
  holds = λ k. omega (arith, p.holds k, q.holds k);
  lists = λ k l m. q.lists k (p.keeps.live k l) m ∙ p.keeps.lists k l;
  limit = q.limit ∙ p.grows.limit;
}

pub cut_undone : (a b : PathPool) (xs : List Change) → IsUndone a b → limit_of b ≡ limit_of a → IsCutOff a b xs xs
cut_undone a b xs u limit = record { holds = λ k. omega (arith, u.holds k); lists = u.lists; limit = limit }
