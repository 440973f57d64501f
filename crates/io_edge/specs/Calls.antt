-- Which calls are to fail, by their numbers, counted from 1.
use Rattle.std.specs.Prelude.{ℕ, ◌+◌, ◌-◌, ◌^◌, ◌<◌, ◌≤◌, nat_lt, if◌then◌else◌, List, [], ◌∷◌, ◌++◌, All, Contains}

-- The numbers of the calls that are to fail, how many calls were made, and how many faults were counted.
pub record Calls : Type 0 where
  pub fails : List ℕ
  pub made : ℕ
  pub faults : ℕ

-- The next call is one of the list. Once the number of calls stands at its last value, none is.
abbrev pub FailsNext : Calls → Type 0
FailsNext calls = (calls.made < 2 ^ 64 - 1) × Contains calls.fails (calls.made + 1)

-- No number of the list is above the number of calls made.
abbrev pub IsPast : Calls → Type 0
IsPast calls = All (λ call. call ≤ calls.made) calls.fails

-- The calls, of which the one of this number is to fail too.
abbrev pub with_failure : Calls → ℕ → Calls
with_failure calls call = record calls { fails = calls.fails ++ call ∷ [] }

-- A count after one more. It is kept in 64 bits, and stays at its last value.
abbrev pub one_more : ℕ → ℕ
one_more count = if nat_lt count (2 ^ 64 - 1) then count + 1 else count

-- The calls after one more.
abbrev pub after_call : Calls → Calls
after_call calls = record calls { made = one_more calls.made }

-- The calls after one more, which failed.
abbrev pub after_fault : Calls → Calls
after_fault calls = record calls { made = one_more calls.made; faults = one_more calls.faults }
