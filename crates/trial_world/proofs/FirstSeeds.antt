-- The seeds of a line that needs no paths: in each round those of the first, and each a path of its AS alone.
use Rattle.std.proofs.Common.{◌≡◌, ℕ, zero, suc, ◌<◌, Bool, true, false, ◌&&◌, nat_lt, is_some, Option, None, Some, List, refl, sym, ap, ◌∙◌, arith, true≢false}
use Rattle.net_names.specs.Prefixes.{PrefixValue}
use Rattle.stability_laws.specs.Plans.{Plan, announced_path, announces, leaks_in}
use Rattle.stability_laws.specs.Rounds.{seed_given, seeds_of}
use Rattle.stability_laws.specs.declared.entry.Entry.{Entry}
use Rattle.stability_laws.specs.declared.entry.Seed.{Seed}
use Rattle.routing_tree.specs.Placed.{own_seed}
use Rattle.trial_world.specs.Trees.{AnnounceThemselves, NeedsNoPaths, first_seeds}

-- where nobody leaks, nothing of the round before is read
unread : (path : Option (List ℕ)) (f g : Option Entry) → seed_given path false f ≡ seed_given path false g
unread None f g = refl
unread (Some path) f g = refl

no_leak : (t b : Bool) → b ≡ false → (t && b) ≡ false
no_leak true b e = e
no_leak false b e = refl

pub seeds_alike : (plan : Plan) (last : ℕ) → NeedsNoPaths plan last → (before : ℕ) → before < last → (p : PrefixValue) (f : ℕ → Option Entry) (a : ℕ) → seeds_of plan (suc before) p f a ≡ first_seeds plan p a
seeds_alike plan last needs zero less p f a = unread (announced_path plan p a) (f a) None
seeds_alike plan last needs (suc before) less p f a =
    ap (λ t. seed_given (announced_path plan p a) t (f a)) (no_leak (nat_lt 1 (suc (suc before))) (leaks_in plan (suc (suc before)) a) (needs.no_leaks (suc (suc before)) a (omega arith) (omega (arith, less))))
    ∙ unread (announced_path plan p a) (f a) None

-- who announces the prefix has its own seed
pub seed_there : (plan : Plan) (p : PrefixValue) → AnnounceThemselves plan p → (a : ℕ) → announces plan p a ≡ true → first_seeds plan p a ≡ Some (own_seed a)
seed_there plan p alone a h = by (announced_path plan p a) refl h
  where
    by : (o : Option (List ℕ)) → announced_path plan p a ≡ o → is_some o ≡ true → first_seeds plan p a ≡ Some (own_seed a)
    by None e t = absurd (true≢false (sym t))
    by (Some path) e t = ap (λ (o : Option (List ℕ)). seed_given o false None) (e ∙ ap Some (alone a path e))

-- and who does not has none
pub seed_away : (plan : Plan) (p : PrefixValue) (a : ℕ) → announces plan p a ≡ false → first_seeds plan p a ≡ None
seed_away plan p a h = by (announced_path plan p a) refl h
  where
    by : (o : Option (List ℕ)) → announced_path plan p a ≡ o → is_some o ≡ false → first_seeds plan p a ≡ None
    by None e t = ap (λ (o : Option (List ℕ)). seed_given o false None) e
    by (Some path) e t = absurd (true≢false t)

pub seed_announces : (plan : Plan) (p : PrefixValue) (a : ℕ) (s : Seed) → first_seeds plan p a ≡ Some s → announces plan p a ≡ true
seed_announces plan p a s is = by (announces plan p a) refl
  where
    by : (t : Bool) → announces plan p a ≡ t → announces plan p a ≡ true
    by true e = e
    by false e = absurd (let no : None ≡ Some s = sym (seed_away plan p a e) ∙ is in cc)
