-- What follows where exactly the numbers on seeds' paths, and the ASes with seeds, are named.
use Rattle.std.proofs.Common.{◌≡◌, ◌↔◌, ◌&&◌, ◌==◌, inl, ℕ, Bool, true, false, Option, Some, None, option_map, is_some, refl, sym, ◌∙◌, ap}
use Rattle.std.specs.Option.{option_map_or}
use Rattle.std.proofs.lemmas.Bool.{eq-eqb}
use Rattle.net_names.specs.Numbers.{last_or, occurs}
use Rattle.path_pool.specs.declared.pool.PathPool.{PathPool}
use Rattle.stability_laws.specs.declared.entry.Seed.{Seed}
use Rattle.route_choice.specs.declared.held.SeedHeld.{SeedHeld}
use Rattle.route_choice.specs.declared.seeds.SeedIds.{SeedIds}
use Rattle.route_choice.specs.Naming.{AreNamed, HasOrigin, HasPart}
use Rattle.route_choice.specs.Routings.{seed_of, seeds_of}
use Rattle.route_choice.specs.Tables.{seed_at}

-- each number on the path of a seed is named with the path's origin
pub are_named : (named : ℕ → ℕ → Bool) (seeds : ℕ → Option Seed) → ((x origin : ℕ) → named x origin ≡ true ↔ HasOrigin seeds x origin) → AreNamed named seeds
are_named named seeds exact a x s is on =
    let origin = last_or 0 s.path in
    let test : Seed → Bool = λ t. occurs x t.path && (last_or 0 t.path == origin) in
    (exact x origin).1 (a, ap (λ o. option_map_or test o false) is ∙ ap (λ t. t && (origin == origin)) on ∙ eq-eqb origin origin refl)

-- who is not named has no seed
pub unseeded : (named : ℕ → Bool) (pool : PathPool) (seeds : SeedIds) → ((x : ℕ) → named x ≡ true ↔ HasPart (seeds_of pool seeds) x) → (a : ℕ) → named a ≡ false → seed_at seeds a ≡ None
unseeded named pool seeds exact a out = by (seed_at seeds a) refl
  where
    by : (o : Option SeedHeld) → seed_at seeds a ≡ o → o ≡ None
    by None is = refl
    by (Some h) is = (let z : true ≡ false = sym ((exact a).1 (inl (ap (λ o. is_some (option_map (seed_of pool) o)) is))) ∙ out in cc)
