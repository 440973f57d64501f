-- Room for steps.
use Rattle.std.proofs.Common.{◌≡◌, ℕ, ◌≤◌, Bool, true, false, cond, Some, None, List, refl, ap, ◌∙◌, arith}
use Rattle.net_names.specs.Numbers.{occurs}
use Rattle.route_choice.specs.Slots.{over}
use Rattle.route_choice.specs.Tables.{held_at, change_at, joined}
use Rattle.path_pool.specs.declared.pool.PathPool.{PathPool}
use Rattle.route_choice.specs.declared.table.Table.{Table}
use Rattle.route_choice.specs.declared.overlay.Overlay.{Overlay}
use Rattle.route_choice.specs.declared.seeds.SeedIds.{SeedIds}
use Rattle.route_choice.specs.Resources.{AreSeedsLive, CanStep, Keeps}

-- where so many steps can be made, fewer can
pub fewer : (p : PathPool) (s : SeedIds) (t : Table) (o : Overlay) (m n : ℕ) → n ≤ m → CanStep p s t o m → CanStep p s t o n
fewer p s t o m n le can = record {
  changes = record {
    held = can.changes.held;
    seeds_live = can.changes.seeds_live;
    spare = omega (arith, le, can.changes.spare);
    counts = λ k. omega (arith, le, can.changes.counts k);
  };
  room = omega (arith, le, can.room);
}

-- seeds stay live where all that was live does
pub seeds_kept : (p p' : PathPool) (s : SeedIds) → Keeps p p' s → AreSeedsLive p s → AreSeedsLive p' s
seeds_kept p p' s kept live a seed e = kept.live seed.path.0 (live a seed e)

-- what is live stays so, where nothing changes, and over one change and then another
pub keeps_itself : (p : PathPool) (s : SeedIds) → Keeps p p s
keeps_itself p s = record { live = λ k l. l; lists = λ k l. refl; same_seeds = λ a. refl }

pub keeps_more : (p q r : PathPool) (s : SeedIds) → Keeps p q s → Keeps q r s → Keeps p r s
keeps_more p q r s first then = record {
  live = λ k l. then.live k (first.live k l);
  lists = λ k l. then.lists k (first.live k l) ∙ first.lists k l;
  same_seeds = λ a. then.same_seeds a ∙ first.same_seeds a;
}

-- nobody holds anything in an empty table under changes that have no entry
pub blank_none : (t : Table) (o : Overlay) (ases : List ℕ) → ((a : ℕ) → held_at t a ≡ None) → ((a : ℕ) → change_at o a ≡ cond (occurs a ases) (Some None) None) → (a : ℕ) → joined t o a ≡ None
blank_none t o ases none blank a = ap (λ h. over (change_at o a) h) (none a) ∙ ap (λ x. over x None) (blank a) ∙ by (occurs a ases)
  where
    by : (b : Bool) → over (cond b (Some None) None) None ≡ None
    by true = refl
    by false = refl
