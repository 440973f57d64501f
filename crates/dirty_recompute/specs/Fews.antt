-- ASes that wait, each under its rank, in a set.
use Rattle.std.specs.Prelude.{◌≡◌, ℕ, Bool, true, false, ◌||◌, if◌then◌else◌, Option, None, Some}
use Rattle.std.specs.BTreeSet as keys
use Rattle.std.specs.BTreeMap.{is_at}
use Rattle.dirty_recompute.specs.declared.few.Few.{Few}
use Rattle.dirty_recompute.specs.declared.way.Way.{Way}
use Rattle.dirty_recompute.specs.Ways.{IsNoLater}
use Rattle.dirty_recompute.specs.Spots.{key_cmp}

-- the pair is the one AS under its rank, if there is one
abbrev pub is_one : (ℕ → ℕ) → Option ℕ → ℕ × ℕ → Bool
is_one rank None k = false
is_one rank (Some a) k = is_at (key_cmp (rank a, a)) k

-- the few have the pair, of a rank and an AS
abbrev pub few_has : (ℕ → ℕ) → Few → ℕ × ℕ → Bool
few_has rank few k = is_one rank few.one k || keys.contains key_cmp few.many k

-- the pair is there afterwards or is not, as `there` says, and no other pair comes or goes
abbrev pub HasTurned : (ℕ × ℕ → Bool) → (ℕ × ℕ → Bool) → ℕ × ℕ → Bool → Type 0
HasTurned before after k there = (q : ℕ × ℕ) → after q ≡ (if is_at (key_cmp k) q then there else before q)

-- each pair is an AS under its rank
abbrev pub AreKeys : (ℕ → ℕ) → (ℕ × ℕ → Bool) → Type 0
AreKeys rank has = (k : ℕ × ℕ) → has k ≡ true → k.0 ≡ rank k.1

-- no pair comes earlier on this way, by its rank
abbrev pub IsNextKey : Way → (ℕ × ℕ → Bool) → ℕ × ℕ → Type 0
IsNextKey way has k = (q : ℕ × ℕ) → has q ≡ true → IsNoLater way k.0 q.0

-- a was taken out, and none was there that comes earlier on this way
pub record IsNextOf (way : Way) (rank : ℕ → ℕ) (before after : ℕ × ℕ → Bool) (a : ℕ) : Type 0 where
  pub was : before (rank a, a) ≡ true
  pub turned : HasTurned before after (rank a, a) false
  pub next : (b : ℕ) → before (rank b, b) ≡ true → IsNoLater way (rank a) (rank b)
