-- How many steps a plan of rounds may take.
use Rattle.std.specs.Prelude.{◌≡◌, ◌≢◌, ◌⊎◌, ℕ, ◌+◌, ◌-◌, ◌*◌, ◌≤◌, Bool, true, IsTrue, Option, Some, List, length}
use Rattle.net_names.specs.declared.routes.Rel.{Rel}
use Rattle.net_names.specs.Prefixes.{PrefixValue}
use Rattle.stability_laws.specs.declared.entry.Entry.{Entry}
use Rattle.stability_laws.specs.declared.entry.Seed.{Seed}
use Rattle.stability_laws.specs.Plans.{Plan, has_prefix}
use Rattle.stability_laws.specs.Rounds.{seeds_of}
use Rattle.leak_round.specs.Entries.{StandsIn, AreApart}

-- an AS counts where it is touched, where its seed differs before and after, or where it has a neighbour that changes
abbrev pub IsCountedAt : (ℕ → ℕ → Option Rel) → (ℕ → Bool) → (ℕ → Option Seed) → (ℕ → Option Seed) → (ℕ → Bool) → ℕ → Type 0
IsCountedAt relation touched old new changed b = (touched b ≡ true) ⊎ ((new b ≢ old b) ⊎ ((c : ℕ) × (r : Rel) × (relation b c ≡ Some r) × (changed c ≡ true)))

-- what a plan of rounds is between: the plan of seeds and what is held in each round, before and after; which ASes are touched for which prefix, and which change
pub record Course : Type 0 where
  pub plan : Plan
  pub after : Plan
  pub old : ℕ → PrefixValue → ℕ → Option Entry
  pub new : ℕ → PrefixValue → ℕ → Option Entry
  pub touched : PrefixValue → ℕ → Bool
  pub changed : ℕ → PrefixValue → ℕ → Bool

-- the AS counts for the prefix in the round, where leakers look up what they leak in the round before
abbrev pub IsCountedIn : (ℕ → ℕ → Option Rel) → Course → ℕ × (PrefixValue × ℕ) → Type 0
IsCountedIn relation c x = IsCountedAt relation (c.touched x.1.0) (seeds_of c.plan x.0 x.1.0 (c.old (x.0 - 1) x.1.0)) (seeds_of c.after x.0 x.1.0 (c.new (x.0 - 1) x.1.0)) (c.changed x.0 x.1.0) x.1.1

-- the round is one of so many, the prefix is one of the plan, and the AS counts
pub record IsCounted (relation : ℕ → ℕ → Option Rel) (c : Course) (rounds : ℕ) (x : ℕ × (PrefixValue × ℕ)) : Type 0 where
  pub from : 1 ≤ x.0
  pub to : x.0 ≤ rounds
  pub known : IsTrue (has_prefix c.plan x.1.0)
  pub counts : IsCountedIn relation c x

-- the steps from the first count to the last are at most two for each triple of round, prefix and AS that counts
pub record AreEnoughFor (relation : ℕ → ℕ → Option Rel) (c : Course) (rounds first last : ℕ) : Type 0 where
  pub triples : List (ℕ × (PrefixValue × ℕ))
  pub apart : AreApart triples
  pub counted : (x : ℕ × (PrefixValue × ℕ)) → StandsIn x triples → IsCounted relation c rounds x
  pub enough : last ≤ first + 2 * length triples
