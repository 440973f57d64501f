-- What a file says whose first line names a round and a prefix, and what is known of it where memory may run out (own format).
use Rattle.std.specs.Prelude.{ℕ, List, [], ◌∷◌, ok_or, Result, Err}
pub use Rattle.net_names.specs.Lines.{GivesOrFails}
use Rattle.net_names.specs.Prefixes.{PrefixValue}
use Rattle.net_names.specs.Trials.{◌>>=◌}
use Rattle.scenario_text.specs.Forms.{for_of}

-- what the lines say of which the first is `for R P`: `says` has its number, R and P, and the lines behind it (own format)
abbrev pub by_for : {S E : Type 0} → E → (ℕ → E) → (ℕ → ℕ × PrefixValue → List (ℕ × List ℕ) → Result S E) → List (ℕ × List ℕ) → Result S E
by_for no_for unreadable says [] = Err no_for
by_for no_for unreadable says (l ∷ ls) = ok_or (for_of l.1) (unreadable l.0) >>= λ x. says l.0 x ls
