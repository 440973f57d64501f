-- A file whose first line names a round and a prefix.
use Rattle.std.proofs.Common.{◌≡◌, ℕ, List, [], ◌∷◌, Option, Some, None, Result, Ok, Err, refl, ap, sym}
use Rattle.std.specs.Prelude.{ok_or}
use Rattle.net_names.specs.Prefixes.{PrefixValue}
use Rattle.net_names.specs.Trials.{◌>>=◌}
use Rattle.scenario_text.specs.Forms.{for_of}
use Rattle.scenario_text.specs.FileLines.{by_for}

pub no_lines : {S E : Type 0} (no_for : E) (unreadable : ℕ → E) (says : ℕ → ℕ × PrefixValue → List (ℕ × List ℕ) → Result S E) (lines : List (ℕ × List ℕ))
    → lines ≡ [] → by_for no_for unreadable says lines ≡ Err no_for
no_lines no_for unreadable says lines e = ap (by_for no_for unreadable says) e

pub unnamed : {S E : Type 0} (no_for : E) (unreadable : ℕ → E) (says : ℕ → ℕ × PrefixValue → List (ℕ × List ℕ) → Result S E) (lines rest : List (ℕ × List ℕ)) (number : ℕ) (text : List ℕ)
    → lines ≡ (number, text) ∷ rest → None ≡ for_of text → by_for no_for unreadable says lines ≡ Err (unreadable number)
unnamed no_for unreadable says lines rest number text is e = rw (is, ← e) refl

pub named : {S E : Type 0} (no_for : E) (unreadable : ℕ → E) (says : ℕ → ℕ × PrefixValue → List (ℕ × List ℕ) → Result S E) (lines rest : List (ℕ × List ℕ)) (number : ℕ) (text : List ℕ) (names : ℕ × PrefixValue)
    → lines ≡ (number, text) ∷ rest → Some names ≡ for_of text → by_for no_for unreadable says lines ≡ says number names rest
named no_for unreadable says lines rest number text names is e = rw (is, ← e) refl

-- the first line of a file that says this, what it names, and the lines behind it
pub record IsBegun {S E : Type 0} (says : ℕ → ℕ × PrefixValue → List (ℕ × List ℕ) → Result S E) (lines : List (ℕ × List ℕ)) (said : S) : Type 0 where
  pub number : ℕ
  pub text : List ℕ
  pub rest : List (ℕ × List ℕ)
  pub names : ℕ × PrefixValue
  pub lines_are : lines ≡ (number, text) ∷ rest
  pub names_are : for_of text ≡ Some names
  pub says_so : says number names rest ≡ Ok said

pub begun : {S E : Type 0} (no_for : E) (unreadable : ℕ → E) (says : ℕ → ℕ × PrefixValue → List (ℕ × List ℕ) → Result S E) (lines : List (ℕ × List ℕ)) (said : S)
    → by_for no_for unreadable says lines ≡ Ok said → IsBegun says lines said
begun no_for unreadable says [] said is = absurd cc
begun no_for unreadable says (l ∷ ls) said is = by (for_of l.1) refl is
  where
    by : (o : Option (ℕ × PrefixValue)) → for_of l.1 ≡ o → (ok_or o (unreadable l.0) >>= λ x. says l.0 x ls) ≡ Ok said → IsBegun says (l ∷ ls) said
    by None e h = absurd cc
    by (Some x) e h = record { number = l.0; text = l.1; rest = ls; names = x; lines_are = refl; names_are = e; says_so = h }
