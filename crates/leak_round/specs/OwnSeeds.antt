-- The seeds that announcements make, kept prefix by prefix.
use Rattle.std.specs.Prelude.{◌≡◌, ◌≢◌, ℕ, Option, Some, option_map, List, slice_get}
use Rattle.net_names.specs.Prefixes.{PrefixValue}
use Rattle.stability_laws.specs.Plans.{Plan, prefixes_of}
use Rattle.route_choice.specs.declared.seeds.SeedIds.{SeedIds}
use Rattle.route_choice.specs.Tables.{seed_at}
use Rattle.leak_round.specs.declared.announced.Announced.{Announced}
use Rattle.leak_round.specs.declared.edited.EditedSeeds.{EditedSeeds}
use Rattle.leak_round.specs.Announced.{own_path, own_seed}

-- the seeds are those that the announcements of the prefix make
abbrev pub AreOwn : List Announced → PrefixValue → SeedIds → Type 0
AreOwn announced prefix seeds = (a : ℕ) → seed_at seeds a ≡ option_map own_seed (own_path announced prefix a)

-- of the first prefixes of the plan, in their order, these are the seeds that the announcements make
abbrev pub AreOwnSeeds : Plan → List Announced → List SeedIds → Type 0
AreOwnSeeds plan announced own = (i : ℕ) (prefix : PrefixValue) (seeds : SeedIds) → slice_get (prefixes_of plan) i ≡ Some prefix → slice_get own i ≡ Some seeds → AreOwn announced prefix seeds

-- of each prefix but the edited one, if one is edited, the same is announced
abbrev pub AreOthersKept : Option PrefixValue → List Announced → List Announced → Type 0
AreOthersKept edited before after = (prefix : PrefixValue) → edited ≢ Some prefix → (a : ℕ) → own_path after prefix a ≡ own_path before prefix a

-- where there is another plan of seeds, its seeds of the edited prefix are those that its announcements make
abbrev pub AreOwnEdited : Option EditedSeeds → Type 0
AreOwnEdited edited = (e : EditedSeeds) → edited ≡ Some e → AreOwn e.announced.items e.prefix e.own
