-- Two lists side by side, and the room in them.
use Rattle.std.specs.Prelude.{◌≡◌, ℕ, ◌-◌, ◌≤◌, true, min, List, length, Vec, vec_len, vec_capacity}
use Rattle.std.specs.Global.{Global}
use Rattle.net_names.specs.Numbers.{occurs, IsDistinct}

-- how many more entries two lists side by side can take without memory
abbrev pub spare_in : Vec ℕ Global → Vec ℕ Global → ℕ
spare_in xs ys = min (vec_capacity xs - vec_len xs) (vec_capacity ys - vec_len ys)

-- the numbers of a kind are at most so many, each counted once
abbrev pub AreAtMost : ℕ → (ℕ → Type 0) → Type 0
AreAtMost n is = (xs : List ℕ) → IsDistinct xs → ((x : ℕ) → occurs x xs ≡ true → is x) → length xs ≤ n
