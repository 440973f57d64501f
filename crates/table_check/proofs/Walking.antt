-- A walk over the ASes and over who else holds something.
use Rattle.std.proofs.Common.{◌≡◌, ◌⊎◌, inl, inr, ℕ, ◌-◌, ◌+◌, ◌^◌, ◌<◌, true, false, Option, Some, None, sym, subst, ◌∙◌, arith}
use Rattle.std.proofs.lemmas.Bool.{cases_eq, cases_lt}
use Rattle.as_graph.specs.Following.{IsAbove}
use Rattle.stability_laws.specs.declared.entry.Entry.{Entry}
use Rattle.stability_laws.specs.declared.entry.Seed.{Seed}
use Rattle.stability_laws.specs.Offers.{Setting}
use Rattle.table_check.specs.Walk.{IsFine, IsNextNamed, IsUnnamed}

-- how many numbers are above the bound, of those below 2 ^ 32, and one more where there is no bound
abbrev pub left : Option ℕ → ℕ
left None = 2 ^ 32 + 1
left (Some a) = 2 ^ 32 - a

pub less_left : (after : Option ℕ) (a : ℕ) → IsAbove after a → a < 2 ^ 32 → left (Some a) < left after
less_left None a above fits = omega arith
less_left (Some b) a above fits = omega arith

-- who is no AS and holds nothing is in order
pub unnamed_fine : (w : Setting) (seeds : ℕ → Option Seed) (f : ℕ → Option Entry) (k : ℕ) → IsUnnamed w.has f k → IsFine w seeds f k
unnamed_fine w seeds f k u = record { inside = λ is. let a : w.has k ≡ true = is in let b : w.has k ≡ false = u.outside in absurd (let t : true ≡ false = sym a ∙ b in cc); outside = λ is. u.empty }

module _ (w : Setting) (seeds : ℕ → Option Seed) (f : ℕ → Option Entry) (after : Option ℕ) (so_far : (b : ℕ) → IsAbove after b ⊎ IsFine w seeds f b) (a : ℕ) (next : IsNextNamed w.has f after a) where
  -- whoever is below the next one is in order
  pub below : (b : ℕ) → b < a → IsFine w seeds f b
  below b less = elim (so_far b) [ inl above ↦ unnamed_fine w seeds f b (next.between b above less) | inr fine ↦ fine ]

  pub one_more : IsFine w seeds f a → (b : ℕ) → IsAbove (Some a) b ⊎ IsFine w seeds f b
  one_more fine b = elim (cases_lt a b) [
    | inl more ↦ inl more
    | inr rest ↦ elim (cases_eq b a) [
      | inl same ↦ inr (subst (IsFine w seeds f) (sym same) fine)
      | inr other ↦ inr (below b (omega arith))
    ]
  ]

pub all_fine : (w : Setting) (seeds : ℕ → Option Seed) (f : ℕ → Option Entry) (after : Option ℕ) → ((b : ℕ) → IsAbove after b ⊎ IsFine w seeds f b) → ((k : ℕ) → IsAbove after k → IsUnnamed w.has f k) → (b : ℕ) → IsFine w seeds f b
all_fine w seeds f after so_far none b = elim (so_far b) [ inl above ↦ unnamed_fine w seeds f b (none b above) | inr fine ↦ fine ]
