use Rattle.std.proofs.Common.{◌≡◌, ℕ, ◌<◌, Some, None}
use Rattle.std.specs.Prelude.{slice_get}
use Rattle.std.specs.FinMap as map
use Rattle.stability_laws.specs.Plans.{announcers_of}
use Rattle.stability_laws.specs.Seeding.{announced_seed}
use Rattle.stability_laws.proofs.round_seeds.announce_all.Given as goal

abbrev pub invariant-announcers : goal.invariant-announcers
invariant-announcers l = record {
  sound : (a : ℕ) → ((i : ℕ) → i < l.asn-index → slice_get (announcers_of l.plan) i ≡ Some a → ⊥) → map.get l.seeds a ≡ None;
  put : (i a : ℕ) → i < l.asn-index → slice_get (announcers_of l.plan) i ≡ Some a → map.get l.seeds a ≡ announced_seed l.plan l.prefix a;
}
