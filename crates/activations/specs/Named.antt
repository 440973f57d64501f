-- ASes that the lines of a file name.
use Rattle.std.specs.Prelude.{◌≡◌, ℕ, ◌<◌, Bool, true, not, find, map as each, length, List, Option, Some, option_map}
use Rattle.std.specs.FinMap as map
use Rattle.net_names.specs.Numbers.{occurs}
use Rattle.scenario_text.specs.Scenarios.{StartsWith}
use Rattle.stability_laws.specs.declared.entry.Entry.{Entry}
use Rattle.activations.specs.declared.acts.Acts.{Acts}

-- the ASes that lines name
abbrev pub asns_of : List (ℕ × ℕ) → List ℕ
asns_of named = each (λ x. x.1) named

-- the line of the first one that is no AS (own format)
abbrev pub first_foreign_in : (ℕ → Bool) → List (ℕ × ℕ) → Option ℕ
first_foreign_in has named = option_map (λ x. x.0) (find (λ x. not (has x.1)) named)

-- each path begins with the AS that holds it, and has fewer than 16,777,216 numbers; who holds something or is activated is named by a line (own format)
pub record AreSound (acts : Acts) : Type 0 where
  pub own : (a : ℕ) (e : Entry) → map.get acts.held a ≡ Some e → StartsWith a e.path × (length e.path < 16777216)
  pub held : (a : ℕ) (e : Entry) → map.get acts.held a ≡ Some e → occurs a (asns_of acts.named) ≡ true
  pub list : (a : ℕ) → occurs a acts.list ≡ true → occurs a (asns_of acts.named) ≡ true
