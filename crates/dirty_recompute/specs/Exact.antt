-- What a recomputation after an edit comes to, and how many steps it may take.
use Rattle.std.specs.Prelude.{◌≡◌, ◌≢◌, ◌⊎◌, ℕ, ◌+◌, ◌*◌, ◌≤◌, Bool, true, false, Option, Some, List, length}
use Rattle.net_names.specs.declared.routes.Rel.{Rel}
use Rattle.net_names.specs.Numbers.{occurs, IsDistinct}
use Rattle.stability_laws.specs.declared.entry.Entry.{Entry}
use Rattle.stability_laws.specs.declared.entry.Seed.{Seed}
use Rattle.stability_laws.specs.Offers.{Setting}
use Rattle.stability_laws.specs.Stable.{IsStable}

-- f is a stable routing and the only one, and the AS changes are just those at which it differs from the routing that was held before (Gao and Rexford 2001)
pub record IsExact (w : Setting) (seeds : ℕ → Option Seed) (before f : ℕ → Option Entry) (changed : ℕ → Bool) : Type 0 where
  pub stable : IsStable w seeds f
  pub only : (other : ℕ → Option Entry) → IsStable w seeds other → (b : ℕ) → other b ≡ f b
  pub differs : (b : ℕ) → changed b ≡ true → f b ≢ before b
  pub same : (b : ℕ) → changed b ≡ false → f b ≡ before b

-- an AS counts where it is touched by the edit, or has a neighbour that changes
abbrev pub IsCounted : (ℕ → ℕ → Option Rel) → (ℕ → Bool) → (ℕ → Bool) → ℕ → Type 0
IsCounted relation touched changed b = (touched b ≡ true) ⊎ ((c : ℕ) × (r : Rel) × (relation b c ≡ Some r) × (changed c ≡ true))

-- the steps from the first count to the last are at most two for each AS that counts
pub record AreEnough (relation : ℕ → ℕ → Option Rel) (touched changed : ℕ → Bool) (first last : ℕ) : Type 0 where
  pub ases : List ℕ
  pub distinct : IsDistinct ases
  pub counted : (b : ℕ) → occurs b ases ≡ true → IsCounted relation touched changed b
  pub enough : last ≤ first + 2 * length ases
