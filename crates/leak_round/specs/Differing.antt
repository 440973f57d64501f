-- Which ASes may hold something wrong after an edit.
use Rattle.std.specs.Prelude.{◌≡◌, ◌≢◌, ◌⊎◌, ℕ, true, false, Bool, List, []}
use Rattle.net_names.specs.Numbers.{occurs}
use Rattle.net_names.specs.Prefixes.{PrefixValue}
use Rattle.path_pool.specs.declared.pool.PathPool.{PathPool}
use Rattle.stability_laws.specs.Plans.{Plan}
use Rattle.route_choice.specs.declared.round_tables.RoundTables.{RoundTables}
use Rattle.route_choice.specs.declared.seeds.SeedIds.{SeedIds}
use Rattle.route_choice.specs.Routings.{seeds_of}
use Rattle.leak_round.specs.declared.announced.Announced.{Announced}
use Rattle.leak_round.specs.declared.changes.Change.{Change}
use Rattle.leak_round.specs.declared.table_seeds.TableSeeds.{TableSeeds}
use Rattle.leak_round.specs.declared.table_seeds.TableSeeds.TheVariants.{Kept, Listed}
use Rattle.leak_round.specs.Leaked.{AreSeedsWith}

-- to a list come ASes whose seeds differ: of these names all of them, and perhaps others
pub record AddsDiffering (pool : PathPool) (old new : SeedIds) (names before after : List ℕ) : Type 0 where
  pub kept : (b : ℕ) → occurs b before ≡ true → occurs b after ≡ true
  pub same : (b : ℕ) → occurs b names ≡ true → occurs b after ≡ false → seeds_of pool new b ≡ seeds_of pool old b
  pub only : (b : ℕ) → occurs b after ≡ true → (occurs b before ≡ true) ⊎ (seeds_of pool new b ≢ seeds_of pool old b)

-- the list has each touched AS, and each whose seed differs, and no other
pub record AreWrong (touched : ℕ → Bool) (pool : PathPool) (old new : SeedIds) (ases : List ℕ) : Type 0 where
  pub untouched : (b : ℕ) → occurs b ases ≡ false → touched b ≡ false
  pub same : (b : ℕ) → occurs b ases ≡ false → seeds_of pool new b ≡ seeds_of pool old b
  pub only : (b : ℕ) → occurs b ases ≡ true → (touched b ≡ true) ⊎ (seeds_of pool new b ≢ seeds_of pool old b)

-- these are the seeds of the prefix in the round after an edit, and the list has each touched AS and each whose seed was another one before
pub record AreWrongIn (plan after : Plan) (xs ys : List Announced) (rounds : List RoundTables) (changes : List Change) (round : ℕ) (prefix : PrefixValue) (touched : ℕ → Bool) (pool : PathPool) (seeds : SeedIds) (ases : List ℕ) : Type 0 where
  pub was : SeedIds
  pub was_put : AreSeedsWith plan xs rounds [] round prefix was
  pub put : AreSeedsWith after ys rounds changes round prefix seeds
  pub wrong : AreWrong touched pool was seeds ases

-- the seeds of a table, kept or listed
abbrev pub ids_of : TableSeeds → SeedIds
ids_of (Kept seeds) = seeds.now
ids_of (Listed seeds) = seeds
