-- How many entries differ between two families of routings.
use Rattle.std.specs.Prelude.{◌≡◌, ◌≢◌, ◌↔◌, ℕ, ◌≤◌, IsTrue, List, length, AllPairs, Contains}
use Rattle.net_names.specs.Prefixes.{PrefixValue}
use Rattle.stability_laws.specs.Plans.{Plan, has_prefix}
pub use Rattle.stability_laws.specs.Rounds.{Family}

-- so many triples of round, prefix and AS have different entries, where the round is one of so many and the prefix is one of the plan: they are just the elements of a list in which nothing stands twice. An entry and no entry differ
abbrev pub HasChanges : Plan → ℕ → Family → Family → ℕ → Type 0
HasChanges plan rounds old new count =
    (keys : List (ℕ × (PrefixValue × ℕ))) × AllPairs (λ x y. x ≢ y) keys × (length keys ≡ count)
    × ((round : ℕ) (p : PrefixValue) (a : ℕ) → Contains keys (round, (p, a)) ↔ ((1 ≤ round) × (round ≤ rounds) × IsTrue (has_prefix plan p) × (new round p a ≢ old round p a)))
