-- How many entries there are.
use Rattle.std.specs.Prelude.{◌≡◌, ◌⊎◌, ℕ, ◌≤◌, Option, IsSome, List, [], ◌∷◌, length, ⊤}
use Rattle.net_names.specs.Prefixes.{PrefixValue}
use Rattle.stability_laws.specs.declared.entry.Entry.{Entry}

-- x stands in the list
abbrev pub StandsIn : {X : Type 0} → X → List X → Type 0
StandsIn x [] = ⊥
StandsIn x (y ∷ ys) = (x ≡ y) ⊎ StandsIn x ys

-- nothing stands twice in the list
abbrev pub AreApart : {X : Type 0} → List X → Type 0
AreApart [] = ⊤
AreApart (x ∷ xs) = (StandsIn x xs → ⊥) × AreApart xs

-- at no fewer than n different places something is held
pub record HasEntries {X : Type 0} (held : X → Option Entry) (n : ℕ) : Type 0 where
  pub places : List X
  pub apart : AreApart places
  pub entries : (x : X) → StandsIn x places → IsSome (held x)
  pub enough : n ≤ length places

-- what is held of a round at a prefix and an AS
abbrev pub of_round : (PrefixValue → ℕ → Option Entry) → PrefixValue × ℕ → Option Entry
of_round held x = held x.0 x.1

-- what is held at a round, a prefix and an AS
abbrev pub of_rounds : (ℕ → PrefixValue → ℕ → Option Entry) → ℕ × (PrefixValue × ℕ) → Option Entry
of_rounds held x = held x.0 x.1.0 x.1.1
